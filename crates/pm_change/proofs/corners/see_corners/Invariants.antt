use Rattle.std.proofs.Common.{◌≡◌, ◌≤◌, ◌+◌, true, length}
use Rattle.pm_base.specs.Counts.{set_of}
use Rattle.pm_base.specs.Sides.{face_of}
use Rattle.pm_front.specs.Corners.{listed}
use Rattle.pm_change.specs.Gathering.{Gathers, is_face_in}
use Rattle.pm_change.proofs.Walking.{IsWalk, still}
use Rattle.pm_change.proofs.corners.see_corners.Given as goal

abbrev pub invariant-loop-at : goal.invariant-loop-at
invariant-loop-at g l = record {
  got : Gathers (is_face_in (listed l.front.corners l.fn.node.0)) l.fn.put l.put;
  walk : IsWalk (listed l.front.corners l.fn.node.0) (λ e. set_of l.put (face_of e) ≡ true) l.at;
  cost : l.steps + length (still l.at (listed l.front.corners l.fn.node.0))
      ≤ l.fn.steps + length (listed l.front.corners l.fn.node.0);
}

abbrev pub decreases-loop-at : goal.decreases-loop-at
decreases-loop-at g l = length (still l.at (listed l.front.corners l.fn.node.0))
