use Rattle.std.proofs.Common.{◌<◌, arith}
use Rattle.pm_forest.proofs.HierarchyLaws.{some_leaves}
use Rattle.pm_deviation.proofs.farthest.has_few_leaves.Goals as goal

pub overflow_sub-result : goal.overflow_sub-result
overflow_sub-result c =
    let some = some_leaves c.args.h.now c.invariant.ensures c.args.node.0 c.requires in
    let order : c.interval-from.result.0 < c.interval-from.result.1 =
    rw c.interval-from.ensures at some in
    omega arith
