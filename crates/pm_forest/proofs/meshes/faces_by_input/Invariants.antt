use Rattle.std.proofs.Common.{◌≡◌, ℕ, ◌<◌, length, slice_index_or}
use Rattle.pm_forest.specs.Faces.{face_count}
use Rattle.pm_forest.specs.Meshes.{face_input}
use Rattle.pm_forest.proofs.MeshLaws.{numbered_so}
use Rattle.pm_forest.proofs.meshes.faces_by_input.Given as goal

abbrev pub invariant-loop-f : goal.invariant-loop-f
invariant-loop-f l = record {
  len : length l.faces.items ≡ face_count l.h;
  each : (i : ℕ) → i < face_count l.h
      → slice_index_or l.faces.items i 0 ≡ numbered_so (face_input l.h) l.f i;
}
