use Rattle.std.proofs.Common.{◌≡◌, map, ap, ◌∙◌, sym, arith}
use Rattle.std.specs.List.{range_with_len}
use Rattle.std.proofs.lemmas.List.{length-set, take_more_set, take_all}
use Rattle.std.proofs.lemmas.List.FromFn.{map-range_with_len_more}
use Rattle.pm_forest.specs.Forest.{node_count}
use Rattle.pm_forest.specs.Meshes.{input_of_node}
use Rattle.pm_paint.specs.Inputs.{vertex_told, vertices_by_node}
use Rattle.pm_paint.proofs.inputs.write_vertices.Goals as goal

pub loop-node-preserved : goal.loop-node-preserved
loop-node-preserved c =
    let h = c.args.h.now in
    let i = c.loop-node.node in
    let was = c.loop-node.invariant in
    record {
      len = simp length-set was.len;
      front = take_more_set c.loop-node.by_node i _ (omega (arith, was.len))
          ∙ rw (was.front, c.vertex_of.ensures) (sym (map-range_with_len_more
          (λ v. vertex_told (input_of_node h v)) 0 i i (omega arith)));
    }

pub returns : goal.returns
unfolding vertices_by_node
returns c =
    let h = c.args.h.now in
    let was = c.loop-node.invariant in
    let end : c.loop-node.node ≡ node_count h = omega arith in
    sym (take_all _ _ (omega (arith, was.len, end))) ∙ was.front
    ∙ ap (λ n. map (λ v. vertex_told (input_of_node h v)) (range_with_len 0 n)) end
