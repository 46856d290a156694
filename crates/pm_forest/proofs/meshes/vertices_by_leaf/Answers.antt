use Rattle.std.proofs.Common.{◌-◌, sym, arith}
use Rattle.std.proofs.lemmas.List.FromFn.{map-range_with_len_more}
use Rattle.pm_forest.specs.Meshes.{leaf_input}
use Rattle.pm_forest.proofs.meshes.vertices_by_leaf.Goals as goal

pub loop-leaf-preserved : goal.loop-leaf-preserved
loop-leaf-preserved c =
    let h = c.args.h.now in
    let x = c.loop-leaf.leaf in
    record {
      vertices = rw (
        c.push_within_room.ensures.items,
        c.loop-leaf.invariant.vertices,
        c.leaf_input.ensures.value,
      )
          (sym (map-range_with_len_more (λ x. leaf_input h x - 1) 0 x x (omega arith)));
      spare = omega arith;
    }
