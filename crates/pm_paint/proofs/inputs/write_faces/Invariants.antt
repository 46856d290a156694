use Rattle.std.proofs.Common.{◌≡◌, ◌-◌, length, map, take}
use Rattle.std.specs.List.{range_with_len}
use Rattle.pm_forest.specs.Faces.{face_count}
use Rattle.pm_forest.specs.Meshes.{face_input}
use Rattle.pm_paint.proofs.inputs.write_faces.Given as goal

abbrev pub invariant-loop-f : goal.invariant-loop-f
invariant-loop-f l = record {
  len : length l.by_face ≡ face_count l.h;
  front : take l.f l.by_face ≡ map (λ f. face_input l.h f - 1) (range_with_len 0 l.f);
}
