use Rattle.std.proofs.Common.{◌≡◌, ◌+◌, ◌≤◌, map, take}
use Rattle.pm_forest.specs.Faces.{faces_of, face_count}
use Rattle.pm_forest.specs.Meshes.{leaf_corners}
use Rattle.pm_forest.proofs.meshes.leaf_faces.Given as goal

abbrev pub invariant-loop-f : goal.invariant-loop-f
invariant-loop-f l = record {
  faces : l.faces.items ≡ map leaf_corners (take l.f (faces_of l.h));
  spare : face_count l.h ≤ l.f + l.faces.spare;
}
