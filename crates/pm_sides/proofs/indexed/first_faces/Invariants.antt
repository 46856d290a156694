use Rattle.std.proofs.Common.{◌≡◌}
use Rattle.pm_forest.specs.Faces.{first_face}
use Rattle.pm_sides.specs.Tables.{AreFirstFaces}
use Rattle.pm_sides.proofs.indexed.first_faces.Given as goal

abbrev pub invariant-loop-k : goal.invariant-loop-k
invariant-loop-k l = record {
  firsts : AreFirstFaces l.h l.k l.firsts.items;
  next : l.next ≡ first_face l.h l.k;
}
