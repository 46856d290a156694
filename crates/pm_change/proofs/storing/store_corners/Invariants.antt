use Rattle.std.proofs.Common.{◌≡◌, ◌≤◌, ◌-◌, ◌*◌, filter, length, take, drop}
use Rattle.std.specs.List.{flat_map}
use Rattle.pm_base.specs.Counts.{set_of, numbers_below}
use Rattle.pm_arrays.specs.Arrays.{face_nodes}
use Rattle.pm_change.proofs.storing.store_corners.Given as goal

abbrev pub invariant-loop-face : goal.invariant-loop-face
invariant-loop-face l = record {
  within : l.from ≤ length l.faces;
  counted : l.count ≡ length (filter (set_of l.faces) (numbers_below l.from));
  stored : take (3 * l.count) l.to
      ≡ flat_map (face_nodes l.front.h (set_of l.front.flags))
      (filter (set_of l.faces) (numbers_below l.from));
  behind : drop (3 * l.count) l.to ≡ drop (3 * l.count) l.fn.to;
  len : length l.to ≡ length l.fn.to;
}

abbrev pub decreases-loop-face : goal.decreases-loop-face
decreases-loop-face l = length l.faces - l.from
