-- The laws of cut polygons, each as a statement.
use Rattle.std.specs.Prelude.{◌≡◌, ℕ, ◌+◌, ◌<◌, ◌≤◌, ℤ, pos, ◌+ℤ◌, ◌≤ℤ◌, unsigned_abs, true, false}
use Rattle.std.specs.Prelude.{Some, List, [], ◌∷◌, length, map}
use Rattle.std.specs.List.{All, Any}
use Rattle.pm_base.specs.Place.{Place}
use Rattle.pm_base.specs.declared.mesh.Corners.{Corners}
use Rattle.pm_ears.specs.declared.cut.CutKind.TheVariants as kinds
use Rattle.pm_ears.specs.declared.plane.Axis.{Axis}
use Rattle.pm_ears.specs.declared.recut.Polygon.{Polygon}
use Rattle.pm_ears.specs.declared.spots.Spot.{Spot}
use Rattle.pm_ears.specs.declared.spots.Triangle.{Triangle}
use Rattle.pm_ears.specs.Areas.{twice_area_of, twice_area_within}
use Rattle.pm_ears.specs.Planes.{newell, spots_along, spots_of}
use Rattle.pm_ears.specs.Ears.{ears}
use Rattle.pm_ears.specs.Fans.{fan, has_area}
use Rattle.pm_ears.specs.Cutting.{is_turned_over, pieces_of, named}
use Rattle.pm_ears.specs.Recutting.{IsPolygonWithin, fan_at, overlapping_count, pieces_over, recut}

-- A triangle of three corners in a row comes off, and its second corner goes.
pub data TakesOff : List Spot → Triangle → List Spot → Type 0 where
  here : {a b c : Spot} {more : List Spot}
      → TakesOff (a ∷ b ∷ c ∷ more) (record { a = a; b = b; c = c }) (a ∷ c ∷ more)
  later : {p : Spot} {left rest : List Spot} {t : Triangle} → TakesOff left t rest
      → TakesOff (p ∷ left) t (p ∷ rest)

-- A polygon is cut into triangles: they come off one after the other, until two corners are left.
pub data IsCut : List Spot → List Triangle → Type 0 where
  done : {p q : Spot} → IsCut (p ∷ q ∷ []) []
  next : {left rest : List Spot} {t : Triangle} {ts : List Triangle} → TakesOff left t rest
      → IsCut rest ts → IsCut left (t ∷ ts)

-- The sum of twice the signed areas.
abbrev pub total : List Triangle → ℤ
total [] = pos 0
total (t ∷ ts) = twice_area_of t +ℤ total ts

-- However a polygon is cut, the signed areas add up to its own. So where none is below 0 and the
-- polygon doesn't cross itself, no triangle overlaps another.
abbrev pub AreasAddUp : Type 0
AreasAddUp =
    (spots : List Spot) (ts : List Triangle) → IsCut spots ts → total ts ≡ twice_area_within spots

-- There are two triangles fewer than corners.
abbrev pub TwoFewer : Type 0
TwoFewer = (spots : List Spot) (ts : List Triangle) → IsCut spots ts → length ts + 2 ≡ length spots

-- A triangle names three corners in the polygon's order, of so many.
pub record IsInOrder (n : ℕ) (t : Triangle) : Type 0 where
  pub first : t.a.position < t.b.position
  pub second : t.b.position < t.c.position
  pub below : t.c.position < n

-- A fan is such a cut,
abbrev pub FansAreCuts : Type 0
FansAreCuts = (a b : Spot) (more : List Spot) → IsCut (a ∷ b ∷ more) (fan (a ∷ b ∷ more))

-- and so are ears, of which none is turned over.
abbrev pub EarsAreCuts : Type 0
EarsAreCuts =
    (n : ℕ) (spots : List Spot) (ts : List Triangle) → length spots ≡ n + 2 → ears n spots ≡ Some ts
    → IsCut spots ts × All (λ t. is_turned_over t ≡ false) ts

-- What a polygon of two corners or more is cut into is a cut of it, and keeps its order.
abbrev pub PiecesAreCuts : Type 0
PiecesAreCuts =
    (places : List Place) → 2 ≤ length places
    → IsCut (spots_of places) (pieces_of (spots_of places)).triangles
    × All (IsInOrder (length places)) (pieces_of (spots_of places)).triangles

-- Unless an overlapping fan is told, no triangle is turned over;
abbrev pub UprightUnlessTold : Type 0
UprightUnlessTold =
    (spots : List Spot) → ((pieces_of spots).kind ≡ kinds.OverlappingFan → ⊥)
    → All (λ t. is_turned_over t ≡ false) (pieces_of spots).triangles

-- and where it is told, one is.
abbrev pub OverlapsAreTold : Type 0
OverlapsAreTold =
    (spots : List Spot) → (pieces_of spots).kind ≡ kinds.OverlappingFan
    → Any (λ t. is_turned_over t ≡ true) (pieces_of spots).triangles

-- A polygon is shown with an area that isn't below 0, and no plane of two axes shows a greater one.
pub record IsShownLargest (places : List Place) : Type 0 where
  pub upright : pos 0 ≤ℤ twice_area_within (spots_of places)
  pub largest : (axis : Axis)
      → unsigned_abs (newell axis places) ≤ unsigned_abs (twice_area_within (spots_of places))

-- On the plane on which it is cut.
abbrev pub PolygonsAreShownLargest : Type 0
PolygonsAreShownLargest = (places : List Place) → IsShownLargest places

-- That plane shows a triangle of the fan with an area wherever one of the three does. So what isn't
-- told has none turned over where that can be seen.
pub record IsJudgedWhereSeen (places : List Place) : Type 0 where
  pub upright : ((pieces_of (spots_of places)).kind ≡ kinds.OverlappingFan → ⊥)
      → All (λ t. is_turned_over t ≡ false) (pieces_of (spots_of places)).triangles
  pub seen : (axis : Axis) → Any (λ t. has_area t ≡ true) (fan (spots_along axis places))
      → Any (λ t. has_area t ≡ true) (fan (spots_of places))

abbrev pub PolygonsAreJudgedWhereSeen : Type 0
PolygonsAreJudgedWhereSeen = (places : List Place) → IsJudgedWhereSeen places

-- Polygons cut anew are as many triangles;
abbrev pub RecutsAreAsMany : Type 0
RecutsAreAsMany =
    (places : List Place) (polygons : List Polygon) (faces : List Corners)
    → All (IsPolygonWithin (length faces)) polygons
    → length (recut places polygons faces) ≡ length faces

-- and the same, with nothing told of them, where no fan has a triangle turned over.
abbrev pub UprightFansStay : Type 0
UprightFansStay =
    (places : List Place) (polygons : List Polygon) (faces : List Corners)
    → All (λ p. (pieces_over places (fan_at faces p)).kind ≡ kinds.Fan) polygons
    → (recut places polygons faces ≡ faces) × (overlapping_count places polygons faces ≡ 0)

-- Worked examples, on a plane z = 5. Of the dart (0, 0), (2, 1), (4, 0), (2, 4) the fan overlaps,
-- and the triangle of the later three corners comes off first. The quadrilateral (0, 0), (4, 4),
-- (4, 0), (0, 2) crosses itself; so does the rectangle (0, 0), (4, 0), (4, 2), (0, 2) whose later
-- two corners are listed crosswise, which has no area along any axis.
abbrev pub at : ℕ → ℕ → Place
at x y = record { x = pos x; y = pos y; z = pos 5 }

abbrev pub corners : ℕ → ℕ → ℕ → Corners
corners a b c = record { a = a; b = b; c = c }

abbrev pub dart : List Place
dart = at 0 0 ∷ at 2 1 ∷ at 4 0 ∷ at 2 4 ∷ []

abbrev pub crossed : List Place
crossed = at 0 0 ∷ at 4 4 ∷ at 4 0 ∷ at 0 2 ∷ []

abbrev pub crosswise : List Place
crosswise = at 0 0 ∷ at 4 0 ∷ at 0 2 ∷ at 4 2 ∷ []

pub record AreWorked : Type 0 where
  pub ears : (pieces_of (spots_of dart)).kind ≡ kinds.Ears
  pub triangles : map named (pieces_of (spots_of dart)).triangles
      ≡ corners 1 2 3 ∷ corners 0 1 3 ∷ []
  pub overlaps : (pieces_of (spots_of crossed)).kind ≡ kinds.OverlappingFan
  pub fan : map named (pieces_of (spots_of crossed)).triangles
      ≡ corners 0 1 2 ∷ corners 0 2 3 ∷ []
  pub crosswise_overlaps : (pieces_of (spots_of crosswise)).kind ≡ kinds.OverlappingFan
  pub crosswise_fan : map named (pieces_of (spots_of crosswise)).triangles
      ≡ corners 0 1 2 ∷ corners 0 2 3 ∷ []
