-- Normals whose length is chosen, so that a plane's squared value weighs a squared distance by a
-- face's area or by a side's squared length. A chosen length is seldom whole, so each number is the
-- nearest whole one.
use Rattle.std.specs.Prelude.{ℕ, ◌*◌, ◌^◌, ◌≤◌, ◌==◌, if◌then◌else◌, ℤ, pos, ◌-ℤ◌, ◌*ℤ◌}
use Rattle.std.specs.Prelude.{unsigned_abs}
use Rattle.pm_base.specs.Place.{Place}
use Rattle.pm_base.specs.Geometry.{Direction, norm2_of}
use Rattle.pm_fine.specs.Rounded.{near, root}

-- No number of the normal is further from 0 than m.
abbrev pub IsWithin : ℕ → Direction → Type 0
IsWithin m n = (unsigned_abs n.x ≤ m) × (unsigned_abs n.y ≤ m) × (unsigned_abs n.z ≤ m)

-- No number of a fine normal is further from 0 than 2 ^ 27.
abbrev pub IsFineNormal : Direction → Type 0
IsFineNormal n = IsWithin (2 ^ 27) n

abbrev pub no_direction : Direction
no_direction = record { x = pos 0; y = pos 0; z = pos 0 }

-- A vector's numbers times k by r, each to the nearest whole number.
abbrev pub scaled : ℤ → ℕ → Direction → Direction
scaled k r n = record { x = near (k *ℤ n.x) r; y = near (k *ℤ n.y) r; z = near (k *ℤ n.z) r }

-- 2 ^ 12 times the root of a vector's length, rounded down.
abbrev pub root_length : Direction → ℕ
root_length n = root (root (norm2_of n * 2 ^ 48))

-- The face's normal n brought to the length 64 sqrt |n|: its square is 4,096 |n|, by the face's
-- area.
unfoldable pub area_normal_of : Direction → Direction
area_normal_of n = if norm2_of n == 0 then no_direction else scaled (pos (2 ^ 18)) (root_length n) n

-- A normal of half the length, each number to the nearest whole one: its plane weighs a quarter as
-- much.
abbrev pub halved : Direction → Direction
halved n = record { x = near n.x 2; y = near n.y 2; z = near n.z 2 }

-- A normal of twice the length: its plane weighs four times as much.
abbrev pub doubled : Direction → Direction
doubled n = record { x = pos 2 *ℤ n.x; y = pos 2 *ℤ n.y; z = pos 2 *ℤ n.z }

-- u x v
abbrev pub product_of : Direction → Direction → Direction
product_of u v = record {
  x = u.y *ℤ v.z -ℤ u.z *ℤ v.y;
  y = u.z *ℤ v.x -ℤ u.x *ℤ v.z;
  z = u.x *ℤ v.y -ℤ u.y *ℤ v.x;
}

-- The way from a to b.
abbrev pub way_of : Place → Place → Direction
way_of a b = record { x = b.x -ℤ a.x; y = b.y -ℤ a.y; z = b.z -ℤ a.z }

-- 2 ^ 12 times a vector's length, rounded down.
abbrev pub fine_length : Direction → ℕ
fine_length n = root (norm2_of n * 2 ^ 24)

-- The normal of the plane along the side from a to b that stands square to the face with normal n,
-- brought to the length 352 |b - a|: its square is 30.25 x 4,096 |b - a| |b - a|.
unfoldable pub border_normal_of : Place → Place → Direction → Direction
border_normal_of a b n = if norm2_of n == 0 then no_direction
    else scaled (pos (11 * 2 ^ 18)) (2 * fine_length n) (product_of (way_of a b) n)
