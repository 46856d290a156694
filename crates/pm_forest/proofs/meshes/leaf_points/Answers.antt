use Rattle.std.proofs.Common.{◌∙◌, sym, ap, arith}
use Rattle.std.proofs.lemmas.List.FromFn.{map-range_with_len_more}
use Rattle.pm_forest.specs.Places.{place_of_node}
use Rattle.pm_forest.specs.Meshes.{leaf_place}
use Rattle.pm_forest.proofs.meshes.leaf_points.Goals as goal

pub loop-leaf-preserved : goal.loop-leaf-preserved
loop-leaf-preserved c =
    let h = c.args.h.now in
    let x = c.loop-leaf.leaf in
    let place = c.place.ensures ∙ ap (place_of_node h) c.leaf_node.ensures.value in
    record {
      points = rw (c.push_within_room.ensures.items, c.loop-leaf.invariant.points, place)
          (sym (map-range_with_len_more (leaf_place h) 0 x x (omega arith)));
      spare = omega arith;
    }
