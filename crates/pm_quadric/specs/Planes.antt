-- Planes of faces, and their squared values at a place (Garland and Heckbert 1997, with normals
-- that aren't made unit).
use Rattle.std.specs.Prelude.{◌≡◌, ℕ, ◌+◌, List, [], ◌∷◌, ℤ, ◌+ℤ◌, ◌*ℤ◌, neg_ℤ, unsigned_abs}
use Rattle.pm_base.specs.Place.{Place, IsPlace}
use Rattle.pm_base.specs.Geometry.{Direction, cross_of, square_of}

-- The plane a x + b y + c z + d = 0.
pub record Plane : Type 0 where
  pub a : ℤ
  pub b : ℤ
  pub c : ℤ
  pub d : ℤ

-- a x + b y + c z + d: the distance from the plane times the normal's length, with a sign.
abbrev pub plane_value : Plane → Place → ℤ
plane_value f p = f.a *ℤ p.x +ℤ f.b *ℤ p.y +ℤ f.c *ℤ p.z +ℤ f.d

-- The plane with the normal n through p.
abbrev pub plane_through : Direction → Place → Plane
plane_through n p = record {
  a = n.x;
  b = n.y;
  c = n.z;
  d = neg_ℤ (n.x *ℤ p.x +ℤ n.y *ℤ p.y +ℤ n.z *ℤ p.z);
}

-- The plane of the face with corners a, b and c.
abbrev pub plane_of : Place → Place → Place → Plane
plane_of a b c = plane_through (cross_of a b c) a

-- Some face with corners in range has this plane.
pub record IsFacePlane (f : Plane) : Type 0 where
  pub first : Place
  pub second : Place
  pub third : Place
  pub first_in_range : IsPlace first
  pub second_in_range : IsPlace second
  pub third_in_range : IsPlace third
  pub plane : f ≡ plane_of first second third

-- Each of the planes is that of some face.
abbrev pub AreFacePlanes : List Plane → Type 0
AreFacePlanes [] = Unit {0}
AreFacePlanes (f ∷ fs) = IsFacePlane f × AreFacePlanes fs

-- The square of a plane's value.
abbrev pub squared_value : Plane → Place → ℕ
squared_value f p = square_of (unsigned_abs (plane_value f p))

-- The sum of the planes' squared values, a plane as often as it comes in.
abbrev pub squares_of : List Plane → Place → ℕ
squares_of [] p = 0
squares_of (f ∷ fs) p = squared_value f p + squares_of fs p
