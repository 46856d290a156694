-- Points in units of 10^-18, scaled by their box. The coordinates of a place stand for units here,
-- or for the grid.
use Rattle.std.specs.Prelude.{ℕ, ◌*◌, max, ◌==◌, ℤ, pos, ◌+ℤ◌, ◌-ℤ◌, ◌≤ℤ◌, unsigned_abs, List, []}
use Rattle.std.specs.Prelude.{◌∷◌, if◌then◌else◌}
use Rattle.std.specs.Int.Signed.{lt_z}
use Rattle.pm_base.specs.Place.{Place}
use Rattle.obj_read.specs.Coordinates.{with_sign}
use Rattle.obj_prepare.specs.Numbers.{nearest}
use Rattle.obj_prepare.specs.Exact.{lower, upper}
use Rattle.obj_prepare.specs.declared.extents.PointBox.{PointBox}

-- The place of a coordinate along one axis: the whole number nearest to size * off / extent, halves
-- away from 0. `off` is twice the coordinate less the two ends of the box, so twice the way from
-- the middle.
unfoldable pub along : ℕ → ℕ → ℤ → ℤ
along size extent off = with_sign (lt_z off (pos 0)) (nearest (size * unsigned_abs off) extent)

abbrev pub off_middle : ℤ → ℤ → ℤ → ℤ
off_middle n low high = (n +ℤ n) -ℤ (low +ℤ high)

-- The least coordinates of a point and a list, axis by axis, and the greatest.
abbrev pub least_of_places : Place → List Place → Place
least_of_places p [] = p
least_of_places p (q ∷ qs) = least_of_places (lower p q) qs

abbrev pub greatest_of_places : Place → List Place → Place
greatest_of_places p [] = p
greatest_of_places p (q ∷ qs) = greatest_of_places (upper p q) qs

-- The box of a point and a list.
abbrev pub box_of_points : Place → List Place → PointBox
box_of_points p ps = record { low = least_of_places p ps; high = greatest_of_places p ps }

-- A point is in a box.
pub record IsInBox (b : PointBox) (p : Place) : Type 0 where
  pub low_x : b.low.x ≤ℤ p.x
  pub high_x : p.x ≤ℤ b.high.x
  pub low_y : b.low.y ≤ℤ p.y
  pub high_y : p.y ≤ℤ b.high.y
  pub low_z : b.low.z ≤ℤ p.z
  pub high_z : p.z ≤ℤ b.high.z

-- How long the longest axis of a box is.
unfoldable pub extent : PointBox → ℕ
extent b = max (max (unsigned_abs (b.high.x -ℤ b.low.x)) (unsigned_abs (b.high.y -ℤ b.low.y)))
    (unsigned_abs (b.high.z -ℤ b.low.z))

-- The longest axis goes from -size to size, and the middle of each axis to 0. Where all points are
-- one it stands at 0.
unfoldable pub scaled : ℕ → PointBox → Place → Place
scaled size b p =
    if extent b == 0 then record { x = pos 0; y = pos 0; z = pos 0 }
    else record {
      x = along size (extent b) (off_middle p.x b.low.x b.high.x);
      y = along size (extent b) (off_middle p.y b.low.y b.high.y);
      z = along size (extent b) (off_middle p.z b.low.z b.high.z);
    }
