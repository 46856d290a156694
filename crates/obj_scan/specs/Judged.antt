-- A line judged alone: what it gives, or its first fault. A unit is 10^-18.
use Rattle.std.specs.Prelude.{ℕ, ◌+◌, ◌-◌, ◌^◌, ℤ, pos, Bool, true, false, not, List, [], ◌∷◌, ◌++◌}
use Rattle.std.specs.Prelude.{◌&&◌, nat_le, nat_lt, length, Option, Some, None, Result, Ok, Err}
use Rattle.std.specs.Prelude.{if◌then◌else◌}
use Rattle.std.specs.Ordering.{int_eq}
use Rattle.pm_base.specs.declared.limits.TheConstants.{MOST_FACES, MOST_VERTICES}
use Rattle.pm_base.specs.declared.mesh.Corners.{Corners}
use Rattle.pm_base.specs.Place.{Place}
use Rattle.obj_read.specs.declared.fault.ObjFault.{ObjFault}
use Rattle.obj_read.specs.declared.fault.ObjFault.TheVariants as faults
use Rattle.obj_read.specs.Fields.{fields, is_letter}
use Rattle.obj_read.specs.Indices.{index, index_text}
use Rattle.obj_read.specs.Judged.{◌>>=◌}
use Rattle.obj_prepare.specs.Numbers.{decimal_coordinate, is_exact_field}
use Rattle.pm_ears.specs.declared.recut.Polygon.{Polygon}
use Rattle.obj_scan.specs.declared.fault.ScanFault.{ScanFault}
use Rattle.obj_scan.specs.declared.fault.ScanFault.TheVariants as scan_faults
use Rattle.obj_scan.specs.declared.passed.Kind.{Kind}
use Rattle.obj_scan.specs.declared.passed.Kind.TheVariants as kinds
use Rattle.obj_scan.specs.declared.passed.PassedOver.{PassedOver}
use Rattle.obj_scan.specs.Passing.{is_garbled, kind_of, passed_after}
use Rattle.obj_scan.specs.Polygons.{triangles}
use Rattle.pm_io.specs.Letters.{letter_f, letter_v}

-- What the lines so far gave: points in units of 10^-18, and how many of them aren't exactly what
-- was spelled; triangles, where those of each face of more than three corners begin and how many
-- they are, and how much was passed over.
pub record Scanned : Type 0 where
  pub points : List Place
  pub inexact : ℕ
  pub faces : List Corners
  pub polygons : List Polygon
  pub passed : PassedOver

-- What a line gives: nothing, or a point and whether it is exactly what its fields spell, and what
-- is passed over of it, if anything is; or the vertex numbers of a polygon's corners.
pub data Found : Type 0 where
  nothing : Option Kind → Found
  vertex : Place → Bool → Option Kind → Found
  polygon : List ℕ → Found

-- A field with this coordinate is a weight: it is a number, and not 1 to the nearest unit. A number
-- that is out of range isn't 1.
abbrev pub is_weight : Result ℤ ObjFault → Bool
is_weight (Ok w) = not (int_eq w (pos (10 ^ 18)))
is_weight (Err faults.OutOfRange) = true
is_weight (Err _) = false

-- What stands after the three coordinates: one field that is a weight, as in `v x y z w`, or three
-- or more, as a colour.
unfoldable pub after_place : List (List ℕ) → Option Kind
after_place (w ∷ []) = if is_weight (decimal_coordinate w) then Some kinds.Weight else None
after_place (r ∷ g ∷ b ∷ more) = Some kinds.Colour
after_place _ = None

-- The fields after `v`. Those after the third make no fault.
abbrev pub scanned_vertex_line : ℕ → List (List ℕ) → Result Found ObjFault
scanned_vertex_line vertices (a ∷ b ∷ c ∷ more) =
    decimal_coordinate a >>= λ x. decimal_coordinate b >>= λ y. decimal_coordinate c >>= λ z.
    if nat_le MOST_VERTICES vertices then Err faults.TooMany
    else Ok (vertex (record { x = x; y = y; z = z })
    (is_exact_field a && is_exact_field b && is_exact_field c) (after_place more))
scanned_vertex_line vertices _ = Err faults.TooFewFields

-- The vertices that these fields name, or the first fault.
abbrev pub indices : ℕ → List (List ℕ) → Result (List ℕ) ObjFault
indices vertices [] = Ok []
indices vertices (field ∷ more) =
    index vertices (index_text field) >>= λ v. indices vertices more >>= λ vs. Ok (v ∷ vs)

-- The polygon of n corners is cut into n - 2 triangles, for which there has to be room.
abbrev pub polygon_of : ℕ → List ℕ → Result Found ObjFault
polygon_of faces corners =
    if nat_lt MOST_FACES (faces + (length corners - 2)) then Err faults.TooMany
    else Ok (polygon corners)

-- The fields after `f`.
abbrev pub polygon_line : ℕ → ℕ → List (List ℕ) → Result Found ObjFault
polygon_line vertices faces (a ∷ b ∷ c ∷ more) =
    indices vertices (a ∷ b ∷ c ∷ more) >>= polygon_of faces
polygon_line vertices faces _ = Err faults.TooFewFields

-- What is read of a vertex or a face.
abbrev pub in_line : Result Found ObjFault → Result Found ScanFault
in_line (Ok f) = Ok f
in_line (Err e) = Err (scan_faults.Line e)

-- What a line gives that is neither.
unfoldable pub other_line : List ℕ → Result Found ScanFault
other_line keyword =
    if is_garbled keyword then Err scan_faults.GarbledWord
    else Ok (nothing (Some (kind_of keyword)))

-- The fields of a line.
abbrev pub scanned_fields : ℕ → ℕ → List (List ℕ) → Result Found ScanFault
scanned_fields vertices faces [] = Ok (nothing None)
scanned_fields vertices faces (keyword ∷ more) =
    if is_letter letter_v keyword then in_line (scanned_vertex_line vertices more)
    else if is_letter letter_f keyword then in_line (polygon_line vertices faces more)
    else other_line keyword

-- What is read of a line after so many vertices and triangles.
unfoldable pub scanned_line : ℕ → ℕ → List ℕ → Result Found ScanFault
scanned_line vertices faces text = scanned_fields vertices faces (fields text)

-- With a face of these corners after so many triangles.
abbrev pub polygons_after : List Polygon → ℕ → List ℕ → List Polygon
polygons_after ps faces corners =
    if nat_lt 3 (length corners)
    then ps ++ record { first = faces; triangles = length corners - 2 } ∷ []
    else ps

-- One more of them, where a point isn't exact.
abbrev pub inexact_after : ℕ → Bool → ℕ
inexact_after n exact = if exact then n else n + 1

-- With what a line gives that has this number.
abbrev pub with_scanned : Scanned → ℕ → Found → Scanned
with_scanned s line (nothing kind) = record s { passed = passed_after s.passed line kind }
with_scanned s line (vertex p exact kind) = record s {
  points = s.points ++ p ∷ [];
  inexact = inexact_after s.inexact exact;
  passed = passed_after s.passed line kind;
}
with_scanned s line (polygon corners) = record s {
  faces = s.faces ++ triangles s.points corners;
  polygons = polygons_after s.polygons (length s.faces) corners;
}
