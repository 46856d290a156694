-- How a polygon is cut into triangles: a fan from its first corner, or ears where that overlaps.
use Rattle.std.specs.Prelude.{◌≡◌, ◌-◌, nat_lt, pos, int_lt, Bool, List, Option, None}
use Rattle.std.specs.Prelude.{Some, length, map, if◌then◌else◌}
use Rattle.std.specs.List.{list_any}
use Rattle.pm_base.specs.declared.mesh.Corners.{Corners}
use Rattle.pm_base.specs.Place.{Place}
use Rattle.pm_ears.specs.declared.cut.Cut.{Cut}
use Rattle.pm_ears.specs.declared.cut.CutKind.{CutKind}
use Rattle.pm_ears.specs.declared.cut.CutKind.TheVariants as kinds
use Rattle.pm_ears.specs.declared.cut.TheConstants.{MOST_EAR_CORNERS}
use Rattle.pm_ears.specs.declared.spots.Spot.{Spot}
use Rattle.pm_ears.specs.declared.spots.Triangle.{Triangle}
use Rattle.pm_ears.specs.Areas.{twice_area_of}
use Rattle.pm_ears.specs.Ears.{ears}
use Rattle.pm_ears.specs.Fans.{fan}
use Rattle.pm_ears.specs.Planes.{spots_of}

-- A triangle has a signed area below 0.
abbrev pub is_turned_over : Triangle → Bool
is_turned_over t = int_lt (twice_area_of t) (pos 0)

-- What a polygon is cut into, and how.
pub record Pieces : Type 0 where
  pub kind : CutKind
  pub triangles : List Triangle

abbrev pub pieces_by : List Triangle → Option (List Triangle) → Pieces
pieces_by fan None = record { kind = kinds.OverlappingFan; triangles = fan }
pieces_by fan (Some ears) = record { kind = kinds.Ears; triangles = ears }

-- The ears that come off until two corners are left. In a polygon of too many corners none are
-- looked for.
abbrev pub few_ears : List Spot → Option (List Triangle)
few_ears spots =
    if nat_lt MOST_EAR_CORNERS (length spots) then None else ears (length spots - 2) spots

-- The fan, where none of its triangles is turned over; else ears, if they come off; else the fan.
unfoldable pub pieces_of : List Spot → Pieces
pieces_of spots =
    if list_any is_turned_over (fan spots)
    then pieces_by (fan spots) (few_ears spots)
    else record { kind = kinds.Fan; triangles = fan spots }

-- A triangle as positions of corners.
abbrev pub named : Triangle → Corners
named t = record { a = t.a.position; b = t.b.position; c = t.c.position }

-- A polygon with corners at these places is cut so.
pub record IsCutOf (places : List Place) (cut : Cut) : Type 0 where
  pub kind : cut.kind ≡ (pieces_of (spots_of places)).kind
  pub triangles : cut.triangles.items ≡ map named (pieces_of (spots_of places)).triangles
