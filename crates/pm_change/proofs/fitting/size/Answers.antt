use Rattle.std.proofs.Common.{List, ℕ, ◌+◌, length, ap, sym, ◌∙◌, arith}
use Rattle.pm_sets.proofs.FlagLaws.{in_below}
use Rattle.pm_change.proofs.StoreLaws.{one_more, has_room, numbers_few, all_numbers}
use Rattle.pm_change.proofs.fitting.size.Goals as goal

pub overflow_add-count : goal.overflow_add-count
overflow_add-count c =
    let room = has_room c.args.numbers.now c.loop-number.from c.in-Some.number
    c.in-Some.ensures.some in
    let few = numbers_few c.args.numbers.now in
    omega (arith, c.loop-number.invariant.counted, c.requires)

pub loop-number-preserved : goal.loop-number-preserved
loop-number-preserved c =
    let i = c.loop-number.invariant in
    let low = in_below c.args.numbers.now c.in-Some.number c.in-Some.ensures.some.there in
    let more = one_more c.args.numbers.now c.loop-number.from c.in-Some.number
    c.in-Some.ensures.some in
    record { within = omega arith; counted = ap (λ n. n + 1) i.counted ∙ sym more }

pub returns : goal.returns
returns c =
    let i = c.loop-number.invariant in
    i.counted ∙ sym (ap (λ (l : List ℕ). length l)
    (all_numbers c.args.numbers.now c.loop-number.from i.within c.in_default.ensures.none))
