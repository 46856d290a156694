-- Vectors of integers: normals, products, lengths and distances. Lengths are kept squared, as
-- natural numbers.
use Rattle.std.specs.Prelude.{ℕ, ℤ, ◌+◌, ◌*◌, ◌≤◌, ◌+ℤ◌, ◌-ℤ◌, ◌*ℤ◌, unsigned_abs}
use Rattle.pm_base.specs.Place.{Place}

-- A face's normal, or the way from one place to another.
pub record Direction : Type 0 where
  pub x : ℤ
  pub y : ℤ
  pub z : ℤ

-- No number of a face's normal is further from 0 than 2 x 65,534 x 65,534.
abbrev pub IsNormal : Direction → Type 0
IsNormal n =
    (unsigned_abs n.x ≤ 8589410312) × (unsigned_abs n.y ≤ 8589410312)
    × (unsigned_abs n.z ≤ 8589410312)

-- (b - a) x (c - a), the normal of the face a, b, c.
abbrev pub cross_of : Place → Place → Place → Direction
cross_of a b c = record {
  x = (b.y -ℤ a.y) *ℤ (c.z -ℤ a.z) -ℤ (b.z -ℤ a.z) *ℤ (c.y -ℤ a.y);
  y = (b.z -ℤ a.z) *ℤ (c.x -ℤ a.x) -ℤ (b.x -ℤ a.x) *ℤ (c.z -ℤ a.z);
  z = (b.x -ℤ a.x) *ℤ (c.y -ℤ a.y) -ℤ (b.y -ℤ a.y) *ℤ (c.x -ℤ a.x);
}

-- m . n
abbrev pub dot_of : Direction → Direction → ℤ
dot_of m n = m.x *ℤ n.x +ℤ m.y *ℤ n.y +ℤ m.z *ℤ n.z

abbrev pub square_of : ℕ → ℕ
square_of n = n * n

-- The squared distance of two places.
abbrev pub dist2_of : Place → Place → ℕ
dist2_of p q =
    square_of (unsigned_abs (p.x -ℤ q.x)) + square_of (unsigned_abs (p.y -ℤ q.y)) + square_of
    (unsigned_abs (p.z -ℤ q.z))

-- The squared length of a vector, u . u.
abbrev pub norm2_of : Direction → ℕ
norm2_of u =
    square_of (unsigned_abs u.x) + square_of (unsigned_abs u.y) + square_of (unsigned_abs u.z)

-- u + v
abbrev pub plus_of : Direction → Direction → Direction
plus_of u v = record { x = u.x +ℤ v.x; y = u.y +ℤ v.y; z = u.z +ℤ v.z }
