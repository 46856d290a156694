-- Polygons among triangles, each of which stands there as a fan: they are cut by ears where a
-- triangle of it is turned over.
use Rattle.std.specs.Prelude.{◌≡◌, ℕ, ◌+◌, ◌≤◌, ◌<◌, Bool, true, false, not, ◌&&◌, List, [], ◌∷◌}
use Rattle.std.specs.Prelude.{◌++◌, length, map, take, drop, slice_index_or, if◌then◌else◌}
use Rattle.std.specs.List.{list_all, filter}
use Rattle.pm_base.specs.declared.mesh.Corners.{Corners}
use Rattle.pm_base.specs.Place.{Place, origin}
use Rattle.pm_fans.specs.Kept.{is_flat as is_edge}
use Rattle.pm_ears.specs.declared.cut.CutKind.{CutKind}
use Rattle.pm_ears.specs.declared.cut.CutKind.TheVariants as kinds
use Rattle.pm_ears.specs.declared.recut.Fate.{Fate}
use Rattle.pm_ears.specs.declared.recut.Fate.TheVariants as fates
use Rattle.pm_ears.specs.declared.recut.Polygon.{Polygon}
use Rattle.pm_ears.specs.declared.recut.Recut.{Recut}
use Rattle.pm_ears.specs.Planes.{spots_of}
use Rattle.pm_ears.specs.Cutting.{Pieces, pieces_of, named}

-- The triangles of a polygon.
abbrev pub fan_at : List Corners → Polygon → List Corners
fan_at faces p = take p.triangles (drop p.first faces)

-- The polygon's first two corners, and all of them in order.
abbrev pub first_two : List Corners → List ℕ
first_two [] = []
first_two (f ∷ fan) = f.a ∷ f.b ∷ []

abbrev pub corners_of : List Corners → List ℕ
corners_of fan = first_two fan ++ map (λ g. g.c) fan

abbrev pub places_of : List Place → List ℕ → List Place
places_of places corners = map (λ v. slice_index_or places v origin) corners

-- How it is cut over placed vertices.
abbrev pub pieces_over : List Place → List Corners → Pieces
pieces_over places fan = pieces_of (spots_of (places_of places (corners_of fan)))

-- Each triangle names three different vertices.
abbrev pub names_three : List Corners → Bool
names_three fan = list_all (λ f. not (is_edge f)) fan

abbrev pub are_ears : CutKind → Bool
are_ears kinds.Ears = true
are_ears _ = false

abbrev pub is_fan : CutKind → Bool
is_fan kinds.Fan = true
is_fan _ = false

-- The fan gives way to ears. One that names a vertex twice in a triangle stays.
unfoldable pub gives_way : List Place → List Corners → Bool
gives_way places fan = are_ears (pieces_over places fan).kind && names_three fan

-- A triangle of the fan is turned over, and it stays.
unfoldable pub stays_overlapping : List Place → List Corners → Bool
stays_overlapping places fan =
    not (is_fan (pieces_over places fan).kind) && not (gives_way places fan)

-- The triangle of the corners at these positions.
abbrev pub by_corners : List ℕ → Corners → Corners
by_corners corners t = record {
  a = slice_index_or corners t.a 0;
  b = slice_index_or corners t.b 0;
  c = slice_index_or corners t.c 0;
}

-- The triangles that it gives way to.
abbrev pub ears_over : List Place → List Corners → List Corners
ears_over places fan =
    map (by_corners (corners_of fan)) (map named (pieces_over places fan).triangles)

-- Triangles in place of as many from a number on.
abbrev pub put_at : ℕ → List Corners → List Corners → List Corners
put_at first triangles faces =
    take first faces ++ (triangles ++ drop (first + length triangles) faces)

-- The triangles with those of one polygon cut anew, in which these stood.
unfoldable pub with_recut : List Place → List Corners → List Corners → Polygon → List Corners
with_recut places faces cut p =
    if gives_way places (fan_at faces p) then put_at p.first (ears_over places (fan_at faces p)) cut
    else cut

abbrev pub recut_after : List Place → List Corners → List Corners → List Polygon → List Corners
recut_after places faces cut [] = cut
recut_after places faces cut (p ∷ ps) =
    recut_after places faces (with_recut places faces cut p) ps

-- Of polygons among triangles: the triangles with all polygons cut anew, and how many keep a fan
-- that overlaps.
abbrev pub recut : List Place → List Polygon → List Corners → List Corners
recut places polygons faces = recut_after places faces faces polygons

abbrev pub overlapping_count : List Place → List Polygon → List Corners → ℕ
overlapping_count places polygons faces =
    length (filter (λ p. stays_overlapping places (fan_at faces p)) polygons)

pub record IsRecutOf (places : List Place) (polygons : List Polygon) (faces : List Corners)
    (r : Recut) : Type 0 where
  pub faces_are : r.faces.items ≡ recut places polygons faces
  pub overlapping : r.overlapping ≡ overlapping_count places polygons faces

-- Each corner is one of n vertices.
pub record AreBelow (n : ℕ) (f : Corners) : Type 0 where
  pub a : f.a < n
  pub b : f.b < n
  pub c : f.c < n

-- A polygon's triangles are among n.
abbrev pub IsPolygonWithin : ℕ → Polygon → Type 0
IsPolygonWithin n p = p.first + p.triangles ≤ n

-- What becomes of a polygon's fan.
abbrev pub IsFateOf : List Place → List Corners → Fate → Type 0
IsFateOf places fan fates.Fan =
    (gives_way places fan ≡ false) × (stays_overlapping places fan ≡ false)
IsFateOf places fan (fates.Ears triangles) = (gives_way places fan ≡ true)
    × (stays_overlapping places fan ≡ false) × (triangles.items ≡ ears_over places fan)
IsFateOf places fan fates.OverlappingFan =
    (gives_way places fan ≡ false) × (stays_overlapping places fan ≡ true)
