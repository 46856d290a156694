use Rattle.std.proofs.Common.{◌≡◌, ◌≤◌, ◌-◌, ◌*◌, filter, length, take, drop}
use Rattle.std.specs.List.{flat_map}
use Rattle.pm_base.specs.Counts.{set_of, numbers_below}
use Rattle.pm_arrays.specs.Arrays.{coordinates_of}
use Rattle.pm_change.proofs.storing.store_places.Given as goal

abbrev pub invariant-loop-node : goal.invariant-loop-node
invariant-loop-node l = record {
  within : l.from ≤ length l.nodes;
  counted : l.count ≡ length (filter (set_of l.nodes) (numbers_below l.from));
  stored : take (3 * l.count) l.to
      ≡ flat_map (coordinates_of l.front.h) (filter (set_of l.nodes) (numbers_below l.from));
  behind : drop (3 * l.count) l.to ≡ drop (3 * l.count) l.fn.to;
  len : length l.to ≡ length l.fn.to;
}

abbrev pub decreases-loop-node : goal.decreases-loop-node
decreases-loop-node l = length l.nodes - l.from
