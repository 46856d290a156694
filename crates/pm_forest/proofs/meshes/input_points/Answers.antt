use Rattle.std.proofs.Common.{◌<◌, ◌∙◌, sym, subst, ap, arith}
use Rattle.std.proofs.lemmas.List.{get_or_read}
use Rattle.std.proofs.lemmas.List.FromFn.{map-range_with_len_more}
use Rattle.pm_forest.specs.Forest.{leaf_count}
use Rattle.pm_forest.specs.Places.{place_of_node}
use Rattle.pm_forest.specs.Meshes.{leaf_place, leaf_input, input_place}
use Rattle.pm_forest.proofs.MeshLaws.{numbered_so-lt}
use Rattle.pm_forest.proofs.meshes.input_points.Goals as goal

pub leaf_node-requires : goal.leaf_node-requires
leaf_node-requires c =
    let h = c.args.h.now in
    let i = c.loop-i.i in
    let l : i < leaf_count h = omega (arith, c.in_ok-leaves.ensures.len) in
    let read = get_or_read c.in_ok-leaves.leaves.items i c.index.result.now
    (omega (arith, c.in_ok-leaves.ensures.len)) c.index.ensures 0 in
    subst (λ n. n < leaf_count h) (sym (read ∙ c.in_ok-leaves.ensures.each i l))
    (numbered_so-lt (leaf_input h) (leaf_count h) i l)

pub loop-i-preserved : goal.loop-i-preserved
loop-i-preserved c =
    let h = c.args.h.now in
    let i = c.loop-i.i in
    let l : i < leaf_count h = omega (arith, c.in_ok-leaves.ensures.len) in
    let read = get_or_read c.in_ok-leaves.leaves.items i c.index.result.now
    (omega (arith, c.in_ok-leaves.ensures.len)) c.index.ensures 0 in
    let place = c.place.ensures ∙ ap (place_of_node h) c.leaf_node.ensures.value
    ∙ ap (leaf_place h) (read ∙ c.in_ok-leaves.ensures.each i l) in
    record {
      points = rw (c.push_within_room.ensures.items, c.loop-i.invariant.points, place)
          (sym (map-range_with_len_more (input_place h) 0 i i (omega arith)));
      spare = omega arith;
    }
