use Rattle.std.proofs.Common.{◌≡◌, ◌-◌, ap, ◌∙◌, arith}
use Rattle.pm_paint.specs.Means.{count_under, rounded}
use Rattle.pm_paint.proofs.MeanLaws.{count_at}
use Rattle.pm_paint.proofs.means.node_mean.Goals as goal

pub overflow_sub-until : goal.overflow_sub-until
overflow_sub-until c =
    let at = count_at c.args.h.now c.invariant.ensures c.args.node.0 c.interval-from.result.0
    c.interval-from.result.1 c.requires.node c.interval-from.ensures in
    omega (arith, at.some)

pub rounded-requires-clause-some : goal.rounded-requires-clause-some
rounded-requires-clause-some c =
    let at = count_at c.args.h.now c.invariant.ensures c.args.node.0 c.interval-from.result.0
    c.interval-from.result.1 c.requires.node c.interval-from.ensures in
    omega (arith, at.some)

pub rounded-requires-clause-most : goal.rounded-requires-clause-most
rounded-requires-clause-most c =
    let at = count_at c.args.h.now c.invariant.ensures c.args.node.0 c.interval-from.result.0
    c.interval-from.result.1 c.requires.node c.interval-from.ensures in
    omega (arith, at.count, at.some, c.requires.most)

pub returns : goal.returns
returns c =
    let at = count_at c.args.h.now c.invariant.ensures c.args.node.0 c.interval-from.result.0
    c.interval-from.result.1 c.requires.node c.interval-from.ensures in
    let count : c.interval-from.result.1 - c.interval-from.result.0
    ≡ count_under c.args.h.now c.args.node.0 = omega (arith, at.count) in
    c.rounded.ensures ∙ ap (λ n. rounded c.args.sum n) count
