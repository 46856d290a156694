use Rattle.std.proofs.Common.{◌≡◌, ◌<◌, map}
use Rattle.std.specs.List.{range_with_len}
use Rattle.pm_forest.specs.Meshes.{leaf_place}
use Rattle.pm_viewer.specs.Measuring.{extent_of}
use Rattle.pm_viewer.proofs.measuring.mesh_extent.Given as goal

abbrev pub invariant-loop-leaf : goal.invariant-loop-leaf
invariant-loop-leaf l = record {
  extent : l.extent ≡ extent_of (map (leaf_place l.h) (range_with_len 0 l.leaf));
  some : 0 < l.leaf;
}
