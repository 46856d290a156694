use Rattle.std.proofs.Common.{◌≡◌, length, map, take}
use Rattle.std.specs.List.{range_with_len}
use Rattle.pm_forest.specs.Forest.{node_count}
use Rattle.pm_forest.specs.Meshes.{input_of_node}
use Rattle.pm_paint.specs.Inputs.{vertex_told}
use Rattle.pm_paint.proofs.inputs.write_vertices.Given as goal

abbrev pub invariant-loop-node : goal.invariant-loop-node
invariant-loop-node l = record {
  len : length l.by_node ≡ node_count l.h;
  front : take l.node l.by_node
      ≡ map (λ v. vertex_told (input_of_node l.h v)) (range_with_len 0 l.node);
}
