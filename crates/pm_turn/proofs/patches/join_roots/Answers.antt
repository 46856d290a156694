use Rattle.std.proofs.Common.{arith}
use Rattle.pm_turn.specs.Unions.{elders_of}
use Rattle.pm_turn.proofs.JoinLaws.{put_first, put_second, mark_root, pass_on}
use Rattle.pm_turn.proofs.patches.join_roots.Goals as goal

pub returns-then-one-other-clause-one_more : goal.returns-then-one-other-clause-one_more
returns-then-one-other-clause-one_more c m n k a ci s v w =
    let t = elders_of c.args.p.now.elders.items c.args.p.now.parities.items
    c.args.p.now.odd.items in
    let one = c.args.one in
    let other = c.args.other in
    put_first m n k t s a one.face other.face one.parity other.parity c.args.clash v w ci
    c.flipped_if-parity.result c.flipped_if.result _ c.if-one-other.true c.flipped_if.ensures
    c.flipped_if-parity.ensures c.put_under.ensures.value

pub returns-then-other-one-clause-one_more : goal.returns-then-other-one-clause-one_more
returns-then-other-one-clause-one_more c m n k a ci s v w =
    let t = elders_of c.args.p.now.elders.items c.args.p.now.parities.items
    c.args.p.now.odd.items in
    let one = c.args.one in
    let other = c.args.other in
    put_second m n k t s a one.face other.face one.parity other.parity c.args.clash v w ci
    c.flipped_if-parity-then-other-one.result c.flipped_if-crossing.result _ c.if-other-one.true
    c.flipped_if-crossing.ensures c.flipped_if-parity-then-other-one.ensures
    c.put_under-then-other-one.ensures.value

pub returns-then-wrong-clause-one_more : goal.returns-then-wrong-clause-one_more
returns-then-wrong-clause-one_more c m n k a ci s v w =
    let t = elders_of c.args.p.now.elders.items c.args.p.now.parities.items
    c.args.p.now.odd.items in
    let one = c.args.one in
    let other = c.args.other in
    mark_root m n k t s a one.face other.face one.parity other.parity c.args.clash v w ci
    c.flipped_if-crossing.result c.flipped_if-wrong.result _
    (λ l. omega (arith, l, c.if-one-other.false)) (λ l. omega (arith, l, c.if-other-one.false))
    c.flipped_if-crossing.ensures c.flipped_if-wrong.ensures c.if-wrong.true
    c.mark.ensures.value

pub returns-else-wrong-clause-one_more : goal.returns-else-wrong-clause-one_more
returns-else-wrong-clause-one_more c m n k a ci s v w =
    let t = elders_of c.args.p.now.elders.items c.args.p.now.parities.items
    c.args.p.now.odd.items in
    let one = c.args.one in
    let other = c.args.other in
    pass_on m n k t s a one.face other.face one.parity other.parity c.args.clash v w ci
    c.flipped_if-crossing.result c.flipped_if-wrong.result
    (λ l. omega (arith, l, c.if-one-other.false)) (λ l. omega (arith, l, c.if-other-one.false))
    c.flipped_if-crossing.ensures c.flipped_if-wrong.ensures c.if-wrong.false
