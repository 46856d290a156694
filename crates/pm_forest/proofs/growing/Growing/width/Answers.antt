use Rattle.pm_forest.proofs.GrownLeaves.{leaves_in_order}
use Rattle.pm_forest.proofs.growing.Growing.width.Goals as goal

pub overflow_sub-result : goal.overflow_sub-result
overflow_sub-result c =
    leaves_in_order c.self.invariant c.args.self.now c.self.view_is c.args.node c.index.result.now
    c.requires c.index.ensures
