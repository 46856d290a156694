use Rattle.pm_base.specs.Counts.{set_of}
use Rattle.pm_forest.proofs.Climbing.{IsAbove}
use Rattle.pm_viewer.proofs.looking.climb.Given as goal

abbrev pub invariant-loop-k : goal.invariant-loop-k
invariant-loop-k l = IsAbove l.front.h (set_of l.front.flags) l.leaf l.node.0

abbrev pub decreases-loop-k : goal.decreases-loop-k
decreases-loop-k l = l.node.0
