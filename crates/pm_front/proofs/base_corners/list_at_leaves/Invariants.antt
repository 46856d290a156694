use Rattle.std.proofs.Common.{◌*◌, length}
use Rattle.pm_front.proofs.CornerTables.{Filling}
use Rattle.pm_front.proofs.base_corners.list_at_leaves.Given as goal

abbrev pub invariant-loop-corner : goal.invariant-loop-corner
invariant-loop-corner l = Filling l.h (3 * length l.h.bases) l.corner l.corners

abbrev pub decreases-loop-corner : goal.decreases-loop-corner
decreases-loop-corner l = l.corner
