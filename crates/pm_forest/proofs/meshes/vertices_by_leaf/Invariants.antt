use Rattle.std.proofs.Common.{◌≡◌, ◌+◌, ◌-◌, ◌≤◌, map}
use Rattle.std.specs.List.{range_with_len}
use Rattle.pm_forest.specs.Forest.{leaf_count}
use Rattle.pm_forest.specs.Meshes.{leaf_input}
use Rattle.pm_forest.proofs.meshes.vertices_by_leaf.Given as goal

abbrev pub invariant-loop-leaf : goal.invariant-loop-leaf
invariant-loop-leaf l = record {
  vertices : l.vertices.items ≡ map (λ x. leaf_input l.h x - 1) (range_with_len 0 l.leaf);
  spare : leaf_count l.h ≤ l.leaf + l.vertices.spare;
}
