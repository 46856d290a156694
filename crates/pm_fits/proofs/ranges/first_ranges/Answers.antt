use Rattle.std.proofs.Common.{arith}
use Rattle.pm_paint.proofs.MeanLaws.{count_at}
use Rattle.pm_fits.proofs.ranges.first_ranges.Goals as goal

pub bounds-numbers-from : goal.bounds-numbers-from
bounds-numbers-from c =
    let at = count_at c.args.h.now c.invariant.ensures c.loop-node.node c.interval-from.result.0
    c.interval-from.result.1 (omega arith) c.interval-from.ensures in
    omega (arith, at.some, at.most, c.requires)
