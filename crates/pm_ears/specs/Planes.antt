-- Polygons on the plane of two axes on which they are cut.
use Rattle.std.specs.Prelude.{ℕ, ◌+◌, nat_le, ℤ, pos, int_lt, unsigned_abs, Bool, true, false, ◌&&◌}
use Rattle.std.specs.Prelude.{List, [], ◌∷◌, if◌then◌else◌}
use Rattle.std.specs.List.{list_any}
use Rattle.std.specs.Ordering.{int_eq}
use Rattle.pm_base.specs.Place.{Place}
use Rattle.pm_ears.specs.declared.plane.Axis.{Axis}
use Rattle.pm_ears.specs.declared.plane.Axis.TheVariants as axes
use Rattle.pm_ears.specs.declared.plane.Plane.{Plane}
use Rattle.pm_ears.specs.declared.spots.Spot.{Spot}
use Rattle.pm_ears.specs.Areas.{twice_area_within}
use Rattle.pm_ears.specs.Fans.{fan, has_area}

-- Where a corner's place stands on the plane of the two axes beside one, which follow it in turn.
abbrev pub across : Axis → ℕ → Place → Spot
across axes.X i p = record { position = i; x = p.y; y = p.z }
across axes.Y i p = record { position = i; x = p.z; y = p.x }
across axes.Z i p = record { position = i; x = p.x; y = p.y }

abbrev pub mirrored_if : Bool → Spot → Spot
mirrored_if true s = record { position = s.position; x = s.y; y = s.x }
mirrored_if false s = s

unfoldable pub spot_of : Plane → ℕ → Place → Spot
spot_of plane i p = mirrored_if plane.mirrored (across plane.across i p)

-- The corners from position i on.
abbrev pub spots_on : Plane → ℕ → List Place → List Spot
spots_on plane i [] = []
spots_on plane i (p ∷ more) = spot_of plane i p ∷ spots_on plane (i + 1) more

-- The corners as they are seen along an axis.
abbrev pub spots_along : Axis → List Place → List Spot
spots_along axis places = spots_on (record { across = axis; mirrored = false }) 0 places

-- The component of a polygon's normal along an axis, by Newell's method (Sutherland, Sproull and
-- Schumacker 1974), is twice the signed area that is seen along it.
abbrev pub newell : Axis → List Place → ℤ
newell axis places = twice_area_within (spots_along axis places)

-- The plane across an axis on which an area isn't below 0.
abbrev pub facing : Axis → ℤ → Plane
facing axis area = record { across = axis; mirrored = int_lt area (pos 0) }

-- The plane of the greatest of three areas, the first of equal ones.
unfoldable pub largest_of : ℤ → ℤ → ℤ → Plane
largest_of x y z =
    if nat_le (unsigned_abs y) (unsigned_abs x) && nat_le (unsigned_abs z) (unsigned_abs x)
    then facing axes.X x
    else if nat_le (unsigned_abs z) (unsigned_abs y) then facing axes.Y y
    else facing axes.Z z

-- A triangle of the fan is seen with an area along an axis.
abbrev pub is_seen : Axis → List Place → Bool
is_seen axis places = list_any has_area (fan (spots_along axis places))

-- The first axis along which one is; X where there is none.
unfoldable pub first_seen : List Place → Axis
first_seen places =
    if is_seen axes.X places then axes.X
    else if is_seen axes.Y places then axes.Y
    else if is_seen axes.Z places then axes.Z
    else axes.X

-- The plane of these three areas of a polygon. Where all are 0, triangles that are turned over make
-- up for others, and the plane is one that shows them.
unfoldable pub plane_by : ℤ → ℤ → ℤ → List Place → Plane
plane_by x y z places =
    if int_eq x (pos 0) && int_eq y (pos 0) && int_eq z (pos 0)
    then record { across = first_seen places; mirrored = false }
    else largest_of x y z

-- The plane on which a polygon is cut,
abbrev pub plane_of : List Place → Plane
plane_of places =
    plane_by (newell axes.X places) (newell axes.Y places) (newell axes.Z places) places

-- and its corners there.
abbrev pub spots_of : List Place → List Spot
spots_of places = spots_on (plane_of places) 0 places
