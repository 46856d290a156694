use Rattle.pm_bounds.specs.Leaves.{AreBareLeaves}
use Rattle.pm_bounds.proofs.leaves.bare_leaves.Given as goal

abbrev pub invariant-loop-leaf : goal.invariant-loop-leaf
invariant-loop-leaf l = AreBareLeaves l.h l.leaf l.leaves.items
