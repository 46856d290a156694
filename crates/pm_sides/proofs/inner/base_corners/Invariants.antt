use Rattle.pm_sides.specs.Tables.{AreInnerCorners}
use Rattle.pm_sides.proofs.inner.base_corners.Given as goal

abbrev pub invariant-loop-base : goal.invariant-loop-base
invariant-loop-base l = record {
  inners : AreInnerCorners l.h l._base l.corners.items;
}
