-- The longest axis of a box, and the first points at its ends.
use Rattle.std.specs.Prelude.{ℕ, ◌+◌, ◌==◌, ◌&&◌, ℤ, ◌-ℤ◌, unsigned_abs, Bool, List, ◌∷◌, length}
use Rattle.std.specs.Prelude.{if◌then◌else◌}
use Rattle.std.specs.Ordering.{int_eq}
use Rattle.pm_base.specs.declared.mesh.Corners.{Corners}
use Rattle.pm_base.specs.Place.{Place}
use Rattle.obj_prepare.specs.declared.extents.PointBox.{PointBox}
use Rattle.obj_prepare.specs.declared.longest.Axis.{Axis}
use Rattle.obj_prepare.specs.declared.longest.Axis.TheVariants as axes
use Rattle.obj_prepare.specs.declared.longest.LongestAxis.{LongestAxis}
use Rattle.obj_prepare.specs.Boxes.{extent}
use Rattle.obj_prepare.specs.Named.{named_in}

abbrev pub coordinate_on : Axis → Place → ℤ
coordinate_on axes.X p = p.x
coordinate_on axes.Y p = p.y
coordinate_on axes.Z p = p.z

-- Of three axes of which the longest is so long, and x and y so, the first that is as long.
unfoldable pub longest_by : ℕ → ℕ → ℕ → Axis
longest_by x y most = if x == most then axes.X else if y == most then axes.Y else axes.Z

-- The first axis of a box that is as long as the longest.
unfoldable pub longest_of : PointBox → Axis
longest_of b = longest_by (unsigned_abs (b.high.x -ℤ b.low.x))
    (unsigned_abs (b.high.y -ℤ b.low.y)) (extent b)

-- A point whose flag is set has this coordinate on an axis.
abbrev pub is_at : Axis → ℤ → Bool → Place → Bool
is_at axis n named p = named && int_eq (coordinate_on axis p) n

-- How many points stand before the first of these.
abbrev pub first_at : Axis → ℤ → List Bool → List Place → ℕ
first_at axis n (named ∷ flags) (p ∷ ps) = if is_at axis n named p then 0 else 1 + first_at axis n
    flags ps
first_at axis n _ _ = 0

-- The first points that faces name at the ends of the longest axis of a box.
unfoldable pub longest_axis : PointBox → List Place → List Corners → LongestAxis
longest_axis b points faces = record {
  axis = longest_of b;
  low = first_at (longest_of b) (coordinate_on (longest_of b) b.low)
      (named_in faces (length points)) points;
  high = first_at (longest_of b) (coordinate_on (longest_of b) b.high)
      (named_in faces (length points)) points;
}
