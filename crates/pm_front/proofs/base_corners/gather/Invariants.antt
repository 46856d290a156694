use Rattle.std.proofs.Common.{◌≡◌}
use Rattle.pm_front.proofs.BaseCorners.{Gathered}
use Rattle.pm_front.proofs.base_corners.gather.Given as goal

abbrev pub invariant-loop-k : goal.invariant-loop-k
invariant-loop-k l = record {
  items : l.corners.items ≡ l.fn.corners.items;
  gathered : Gathered l.indexed l.k l.corners;
}

abbrev pub decreases-loop-k : goal.decreases-loop-k
decreases-loop-k l = l.k
