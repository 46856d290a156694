use Rattle.std.proofs.Common.{◌≡◌, ◌+◌, ◌≤◌, map}
use Rattle.std.specs.List.{range_with_len}
use Rattle.pm_forest.specs.Forest.{leaf_count}
use Rattle.pm_forest.specs.Meshes.{leaf_place}
use Rattle.pm_forest.proofs.meshes.leaf_points.Given as goal

abbrev pub invariant-loop-leaf : goal.invariant-loop-leaf
invariant-loop-leaf l = record {
  points : l.points.items ≡ map (leaf_place l.h) (range_with_len 0 l.leaf);
  spare : leaf_count l.h ≤ l.leaf + l.points.spare;
}
