use Rattle.std.proofs.Common.{◌≡◌, ◌*◌, ◌<◌, ℕ, true, length, take, filter, slice_index_or}
use Rattle.std.specs.List.{flat_map}
use Rattle.pm_base.specs.Counts.{set_of, count, numbers_below}
use Rattle.pm_forest.specs.Forest.{node_count}
use Rattle.pm_forest.specs.Fronts.{is_active}
use Rattle.pm_front.specs.Shown.{active_nodes}
use Rattle.pm_arrays.specs.Arrays.{coordinates_of}
use Rattle.pm_arrays.proofs.nodes.write_nodes.Given as goal

abbrev pub invariant-loop-node : goal.invariant-loop-node
invariant-loop-node l = record {
  counted : l.count ≡ count (is_active l.front.h (set_of l.front.flags)) l.node;
  stored : take l.count l.nodes ≡ filter (is_active l.front.h (set_of l.front.flags))
      (numbers_below l.node);
  placed : take (3 * l.count) l.places
      ≡ flat_map (coordinates_of l.front.h)
      (filter (is_active l.front.h (set_of l.front.flags)) (numbers_below l.node));
  told : (v : ℕ) → v < l.node → is_active l.front.h (set_of l.front.flags) v ≡ true
      → slice_index_or l.positions v 0 ≡ count (is_active l.front.h (set_of l.front.flags)) v;
  nodes_len : length l.nodes ≡ length (active_nodes l.front.h (set_of l.front.flags));
  places_len : length l.places ≡ 3 * length (active_nodes l.front.h (set_of l.front.flags));
  positions_len : length l.positions ≡ node_count l.front.h;
}
