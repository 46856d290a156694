use Rattle.std.proofs.Common.{◌≡◌, ◌+◌, ◌≤◌, map}
use Rattle.std.specs.List.{range_with_len}
use Rattle.pm_forest.specs.Faces.{face_count}
use Rattle.pm_forest.specs.Meshes.{input_face}
use Rattle.pm_forest.proofs.meshes.input_faces.Given as goal

abbrev pub invariant-loop-i : goal.invariant-loop-i
invariant-loop-i l = record {
  faces : l.faces.items ≡ map (input_face l.h) (range_with_len 0 l.i);
  spare : face_count l.h ≤ l.i + l.faces.spare;
}
