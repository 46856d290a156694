use Rattle.std.proofs.Common.{◌+◌, ◌<◌, refl, sym, ap, ◌∙◌, arith, length-set}
use Rattle.std.specs.List.{flat_map}
use Rattle.pm_base.specs.Counts.{set_of}
use Rattle.pm_base.proofs.Counts.{count-zero, count_le}
use Rattle.pm_forest.specs.Forest.{node_count}
use Rattle.pm_forest.specs.Fronts.{is_active}
use Rattle.pm_arrays.specs.Arrays.{coordinates_of}
use Rattle.pm_arrays.proofs.PositionLaws.{position_below}
use Rattle.pm_arrays.proofs.ArrayLaws.{count_on, numbers_on, threes_on, count_stays, numbers_stay}
use Rattle.pm_arrays.proofs.ArrayLaws.{table_on, table_stays}
use Rattle.pm_arrays.proofs.nodes.write_nodes.Goals.{then-is_active, else-is_active}
use Rattle.pm_arrays.proofs.nodes.write_nodes.Goals as goal

pub loop-node-init : goal.loop-node-init
loop-node-init c = record {
  counted = sym (count-zero (is_active c.args.front.now.h (set_of c.args.front.now.flags)));
  stored = refl;
  placed = refl;
  told = λ v l active. absurd (omega (arith, l));
  nodes_len = c.requires.nodes_fit;
  places_len = c.requires.places_fit;
  positions_len = c.requires.positions_fit;
}

pub store_node-requires-clause-nodes_fit : goal.store_node-requires-clause-nodes_fit
store_node-requires-clause-nodes_fit c =
    let h = c.args.front.now.h in
    let i = c.loop-node.invariant in
    let there : c.loop-node.node < node_count h =
    omega (arith, ap node_count c.hierarchy.ensures) in
    let pass = sym c.is_active.ensures ∙ c.if-is_active.true in
    let below = position_below (is_active h (set_of c.args.front.now.flags)) c.loop-node.node
    (node_count h) there pass in
    omega (arith, below, i.counted, i.nodes_len)

pub store_node-requires-clause-places_fit : goal.store_node-requires-clause-places_fit
store_node-requires-clause-places_fit c =
    let h = c.args.front.now.h in
    let i = c.loop-node.invariant in
    let there : c.loop-node.node < node_count h =
    omega (arith, ap node_count c.hierarchy.ensures) in
    let pass = sym c.is_active.ensures ∙ c.if-is_active.true in
    let below = position_below (is_active h (set_of c.args.front.now.flags)) c.loop-node.node
    (node_count h) there pass in
    omega (arith, below, i.counted, i.places_len)

pub overflow_add-count : goal.overflow_add-count
overflow_add-count c =
    let few = count_le (is_active c.args.front.now.h (set_of c.args.front.now.flags))
    c.loop-node.node in
    omega (arith, few, c.loop-node.invariant.counted)

pub loop-node-preserved : goal.loop-node-preserved
loop-node-preserved c =
    let h = c.args.front.now.h in
    let T = set_of c.args.front.now.flags in
    let i = c.loop-node.invariant in
    let n = c.loop-node.node in
    let there : n < node_count h = omega (arith, ap node_count c.hierarchy.ensures) in
    elim c.if-is_active.branch [
      | then-is_active w ↦
          let pass = sym c.is_active.ensures ∙ w.if-is_active.true in
          rw (w.count-is, w.nodes-is, w.places-is, w.positions-is) (record {
            counted = ap (λ k. k + 1) i.counted ∙ sym (count_on (is_active h T) n pass);
            stored = numbers_on (is_active h T) n c.loop-node.count _ _ pass i.counted i.stored
                w.store_node.ensures.node;
            placed = threes_on (is_active h T) (coordinates_of h) n c.loop-node.count
                (c.loop-node.count + 1) _ _ _ pass refl i.placed w.store_node.ensures.place;
            told = table_on (is_active h T) n c.loop-node.count c.loop-node.positions
                (omega (arith, there, i.positions_len)) i.counted i.told;
            nodes_len = w.store_node.ensures.nodes_len ∙ i.nodes_len;
            places_len = w.store_node.ensures.places_len ∙ i.places_len;
            positions_len = length-set c.loop-node.positions n c.loop-node.count ∙ i.positions_len;
          })
      | else-is_active w ↦
          let fail = sym c.is_active.ensures ∙ w.if-is_active.false in
          rw (w.count-is, w.nodes-is, w.places-is, w.positions-is) (record {
            counted = i.counted ∙ sym (count_stays (is_active h T) n fail);
            stored = numbers_stay (is_active h T) (λ xs. xs) n _ fail i.stored;
            placed = numbers_stay (is_active h T) (λ xs. flat_map (coordinates_of h) xs) n _ fail
                i.placed;
            told = table_stays (is_active h T) n c.loop-node.positions fail i.told;
            nodes_len = i.nodes_len;
            places_len = i.places_len;
            positions_len = i.positions_len;
          })
    ]
