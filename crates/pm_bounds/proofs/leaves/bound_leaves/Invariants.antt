use Rattle.pm_bounds.proofs.LeafTables.{AreSeenTo}
use Rattle.pm_bounds.proofs.leaves.bound_leaves.Given as goal

abbrev pub invariant-loop-f : goal.invariant-loop-f
invariant-loop-f l = AreSeenTo l.h l.f l.leaves.items
