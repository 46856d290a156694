-- Which way the faces under a node look: their normals in parts of 1 / 16,384 of their own lengths.
-- No root is exact, so each part is known by a whole number that isn't above it and one that isn't
-- below it.
use Rattle.std.specs.Prelude.{ℕ, ◌+◌, ◌-◌, ◌*◌, ◌/◌, ◌==◌, nat_le, if◌then◌else◌, max, map, Option}
use Rattle.std.specs.Prelude.{None, Some, ℤ, pos, negsuc, neg_ℤ, unwrap_or}
use Rattle.std.specs.Int.{div_ceil}
use Rattle.std.specs.Option.{option_map, option_map_or}
use Rattle.pm_base.specs.Geometry.{Direction, norm2_of}
use Rattle.pm_base.specs.Rounded.{root_up}
use Rattle.pm_forest.specs.Forest.{Hierarchy}
use Rattle.pm_bounds.specs.Bounds.{normal_of, faces_under, greatest}
use Rattle.pm_deviation.specs.declared.axes.Axis.{Axis}
use Rattle.pm_deviation.specs.declared.axes.TheConstants.{AXES}
use Rattle.pm_deviation.specs.declared.spread.Spread.{Spread}
use Rattle.pm_deviation.specs.declared.unit_box.UnitBox.{UnitBox}
use Rattle.pm_deviation.specs.Spreads.{joined_all, mirrored, no_spread, along}

-- The greatest number whose square is at most n.
unfoldable pub root_down : ℕ → ℕ
root_down n = if nat_le (root_up n * root_up n) n then root_up n else root_up n - 1

-- How many 16,384ths a number is of a length that lies between two whole numbers.
abbrev pub share : ℕ → ℕ → ℕ → Spread
share n short long = record {
  low = pos (16384 * n / long);
  high = pos (div_ceil (16384 * n) short);
}

-- The same of a signed number, and of a length whose square is given.
unfoldable pub part_of : ℤ → ℕ → Spread
part_of (pos n) square = share n (root_down square) (root_up square)
part_of (negsuc n) square = mirrored (share (n + 1) (root_down square) (root_up square))

-- A normal in parts of its own length; none where it has no length, as that of a face without area.
unfoldable pub unit_box : Direction → Option UnitBox
unit_box n = if norm2_of n == 0 then None
    else Some (record {
      x = part_of n.x (norm2_of n);
      y = part_of n.y (norm2_of n);
      z = part_of n.z (norm2_of n);
    })

abbrev pub direction_of : Axis → Direction
direction_of u = record { x = u.x; y = u.y; z = u.z }

-- What a normal, or another direction, has along an axis.
abbrev pub part_along : Axis → Direction → Option Spread
part_along u n = option_map (λ b. along b (direction_of u)) (unit_box n)

-- What the normals of the faces under node v have along an axis; none where no face with area is
-- under it.
unfoldable pub spread_of : Hierarchy → Axis → ℕ → Option Spread
spread_of h u v = joined_all (map (λ f. part_along u (normal_of h f)) (faces_under h v))

abbrev pub x_axis : Axis
x_axis = record { x = pos 1; y = pos 0; z = pos 0 }

abbrev pub y_axis : Axis
y_axis = record { x = pos 0; y = pos 1; z = pos 0 }

abbrev pub z_axis : Axis
z_axis = record { x = pos 0; y = pos 0; z = pos 1 }

-- The box of directions that have these spreads along axes.
abbrev pub box_by : (Axis → Option Spread) → UnitBox
box_by spread = record {
  x = unwrap_or (spread x_axis) no_spread;
  y = unwrap_or (spread y_axis) no_spread;
  z = unwrap_or (spread z_axis) no_spread;
}

-- The box of the normals under node v.
abbrev pub unit_box_of : Hierarchy → ℕ → UnitBox
unit_box_of h v = box_by (λ u. spread_of h u v)

-- A number, and 0 for one below 0.
abbrev pub above_zero : ℤ → ℕ
above_zero (pos n) = n
above_zero (negsuc n) = 0

-- The length of an axis in 16,384ths, rounded up.
abbrev pub length_of : Axis → ℕ
length_of u = root_up (268435456 * norm2_of (direction_of u))

-- The least cosine, in 16,384ths, of an axis with normals that have this along it, or of the
-- opposite axis where that is greater; 0 where some look one way along the axis and some the other.
abbrev pub least_cosine : Axis → Spread → ℕ
least_cosine u s = 16384 * max (above_zero s.low) (above_zero (neg_ℤ s.high)) / length_of u

-- The same where no normal is there: 16,384.
abbrev pub cosine_by : Axis → Option Spread → ℕ
cosine_by u spread = option_map_or (least_cosine u) spread 16384

-- The least cosine of directions that have these spreads along axes with the axis that they go
-- along most alike.
abbrev pub greatest_cosine : (Axis → Option Spread) → ℕ
greatest_cosine spread = greatest (map (λ u. cosine_by u (spread u)) AXES)

-- The same of the normals under node v.
unfoldable pub cosine_of : Hierarchy → ℕ → ℕ
cosine_of h v = greatest_cosine (λ u. spread_of h u v)
