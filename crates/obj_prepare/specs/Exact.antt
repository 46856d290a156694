-- Points in units of 10^-18, as contracts see them.
use Rattle.std.specs.Prelude.{ℤ, ◌≤◌, ◌^◌, nat_le, Bool, ◌&&◌, unsigned_abs}
use Rattle.std.specs.Int.{int_min, int_max}
use Rattle.pm_base.specs.Place.{Place}

-- A coordinate is at most 10^32 away from 0.
abbrev pub is_exact : ℤ → Bool
is_exact n = nat_le (unsigned_abs n) (10 ^ 32)

abbrev pub are_exact : Place → Bool
are_exact p = is_exact p.x && is_exact p.y && is_exact p.z

-- The same as a fact.
abbrev pub AreExact : Place → Type 0
AreExact p =
    (unsigned_abs p.x ≤ 10 ^ 32) × (unsigned_abs p.y ≤ 10 ^ 32) × (unsigned_abs p.z ≤ 10 ^ 32)

-- The least coordinates of two points, axis by axis, and the greatest.
abbrev pub lower : Place → Place → Place
lower p q = record { x = int_min p.x q.x; y = int_min p.y q.y; z = int_min p.z q.z }

abbrev pub upper : Place → Place → Place
upper p q = record { x = int_max p.x q.x; y = int_max p.y q.y; z = int_max p.z q.z }
