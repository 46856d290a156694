-- Planes with fine normals through places, and how great their numbers are.
use Rattle.std.specs.Prelude.{◌^◌, ◌≤◌, List, [], ◌∷◌, ℤ, pos, unsigned_abs}
use Rattle.pm_base.specs.Place.{Place}
use Rattle.pm_base.specs.Geometry.{Direction}
use Rattle.pm_quadric.specs.Planes.{Plane, plane_through}

-- The numbers of the normal are at most 2 ^ 27, and the last number three times 32,767 times that,
-- as it is where a place is on the plane.
pub record IsFinePlane (f : Plane) : Type 0 where
  pub a : unsigned_abs f.a ≤ 2 ^ 27
  pub b : unsigned_abs f.b ≤ 2 ^ 27
  pub c : unsigned_abs f.c ≤ 2 ^ 27
  pub d : unsigned_abs f.d ≤ 13193736880128

-- Each of the planes is such.
abbrev pub AreFinePlanes : List Plane → Type 0
AreFinePlanes [] = Unit {0}
AreFinePlanes (f ∷ fs) = IsFinePlane f × AreFinePlanes fs

abbrev pub direction : ℤ → ℤ → ℤ → Direction
direction x y z = record { x = x; y = y; z = z }

-- The three planes through a place whose normals run along the axes and are 2 long: their squared
-- values at another place sum to four times the squared distance.
abbrev pub point_planes : Place → List Plane
point_planes p =
    plane_through (direction (pos 2) (pos 0) (pos 0)) p ∷
    plane_through (direction (pos 0) (pos 2) (pos 0)) p ∷
    plane_through (direction (pos 0) (pos 0) (pos 2)) p ∷ []
