use Rattle.std.proofs.Common.{◌≡◌, ℕ, ◌<◌, length, slice_index_or}
use Rattle.pm_forest.specs.Forest.{leaf_count}
use Rattle.pm_forest.specs.Meshes.{leaf_input}
use Rattle.pm_forest.proofs.MeshLaws.{numbered_so}
use Rattle.pm_forest.proofs.meshes.leaves_by_input.Given as goal

abbrev pub invariant-loop-leaf : goal.invariant-loop-leaf
invariant-loop-leaf l = record {
  len : length l.leaves.items ≡ leaf_count l.h;
  each : (i : ℕ) → i < leaf_count l.h
      → slice_index_or l.leaves.items i 0 ≡ numbered_so (leaf_input l.h) l.leaf i;
}
