use Rattle.pm_bounds.proofs.NodeTables.{AreGiven}
use Rattle.pm_bounds.proofs.leaves.give_nodes.Given as goal

abbrev pub invariant-loop-leaf : goal.invariant-loop-leaf
invariant-loop-leaf l = AreGiven l.h l.leaf l.balls.items l.boxes.items
