-- What rounding to the grid did to triangles, as seen on a grid 4,096 times as fine.
use Rattle.std.specs.Prelude.{◌≤◌, ℕ, ◌*◌, ◌^◌, ℤ, pos, unsigned_abs, Bool, not, ◌&&◌, List, map}
use Rattle.std.specs.Prelude.{length, if◌then◌else◌}
use Rattle.std.specs.List.{filter}
use Rattle.std.specs.Int.Signed.{le_z, lt_z}
use Rattle.pm_base.specs.declared.mesh.Corners.{Corners}
use Rattle.pm_base.specs.Place.{Place, origin}
use Rattle.pm_base.specs.Geometry.{Direction, cross_of, dot_of}
use Rattle.obj_prepare.specs.declared.extents.PointBox.{PointBox}
use Rattle.obj_prepare.specs.declared.placing.Fit.{Fit}
use Rattle.obj_prepare.specs.declared.placing.Fit.TheVariants as fits
use Rattle.obj_prepare.specs.Boxes.{scaled}
use Rattle.obj_prepare.specs.Joining.{place_in_list}
use Rattle.obj_fit.specs.declared.rounded.RoundedFaces.{RoundedFaces}
use Rattle.obj_fit.specs.Thin.{is_thin}

-- A coordinate lies between two others, or is one of them.
abbrev pub is_between : ℤ → ℤ → ℤ → Bool
is_between low n high = le_z low n && le_z n high

-- A point is in a box.
abbrev pub is_in_box : PointBox → Place → Bool
is_in_box b p =
    is_between b.low.x p.x b.high.x && is_between b.low.y p.y b.high.y && is_between b.low.z p.z
    b.high.z

-- The place of a point of the box on the fine grid. The others, which no triangle names, stand
-- at 0.
unfoldable pub fine_place : ℕ → PointBox → Place → Place
fine_place size b p = if is_in_box b p then scaled (4096 * size) b p else origin

-- No coordinate of a fine place is further from 0.
abbrev pub IsFine : Place → Type 0
IsFine p =
    (unsigned_abs p.x ≤ 2 ^ 27) × (unsigned_abs p.y ≤ 2 ^ 27) × (unsigned_abs p.z ≤ 2 ^ 27)

abbrev pub fine_places : ℕ → PointBox → List Place → List Place
fine_places size b points = map (fine_place size b) points

-- The normal of a triangle over these places.
abbrev pub normal_over : List Place → Corners → Direction
normal_over places f = cross_of (place_in_list places f.a) (place_in_list places f.b)
    (place_in_list places f.c)

-- Rounding made a triangle flat: it has an area over fine places, and none over places.
abbrev pub is_flattened : List Place → List Place → Corners → Bool
is_flattened fine places f = is_thin places f && not (is_thin fine f)

-- Rounding turned a triangle over: its normals over places and over fine places look away from each
-- other.
abbrev pub is_overturned : List Place → List Place → Corners → Bool
is_overturned fine places f = lt_z (dot_of (normal_over places f) (normal_over fine f)) (pos 0)

unfoldable pub flattened_count : List Place → List Place → List Corners → ℕ
flattened_count fine places faces = length (filter (is_flattened fine places) faces)

unfoldable pub overturned_count : List Place → List Place → List Corners → ℕ
overturned_count fine places faces = length (filter (is_overturned fine places) faces)

-- How many triangles were made flat and turned over. Where points stand as they are none was.
abbrev pub rounded_faces : Fit → List Place → List Place → List Corners → RoundedFaces
rounded_faces fits.Standing points places faces = record { flattened = 0; overturned = 0 }
rounded_faces (fits.Scaled size b) points places faces = record {
  flattened = flattened_count (fine_places size b points) places faces;
  overturned = overturned_count (fine_places size b points) places faces;
}
