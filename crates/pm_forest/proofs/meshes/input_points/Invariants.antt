use Rattle.std.proofs.Common.{◌≡◌, ◌+◌, ◌≤◌, map}
use Rattle.std.specs.List.{range_with_len}
use Rattle.pm_forest.specs.Forest.{leaf_count}
use Rattle.pm_forest.specs.Meshes.{input_place}
use Rattle.pm_forest.proofs.meshes.input_points.Given as goal

abbrev pub invariant-loop-i : goal.invariant-loop-i
invariant-loop-i l = record {
  points : l.points.items ≡ map (input_place l.h) (range_with_len 0 l.i);
  spare : leaf_count l.h ≤ l.i + l.points.spare;
}
