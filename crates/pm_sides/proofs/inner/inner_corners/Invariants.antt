use Rattle.pm_forest.specs.Faces.{first_face}
use Rattle.pm_sides.specs.Tables.{AreInnerCorners}
use Rattle.pm_sides.proofs.inner.inner_corners.Given as goal

abbrev pub invariant-loop-k : goal.invariant-loop-k
invariant-loop-k l = record {
  inners : AreInnerCorners l.h (first_face l.h l.k) l.corners.items;
}
