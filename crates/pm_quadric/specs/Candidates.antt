-- The places that a collapsed pair can take, and which of them it takes.
use Rattle.std.specs.Prelude.{ℕ, ◌≤◌, pos, ◌+ℤ◌, ◌&&◌, nat_le, if◌then◌else◌}
use Rattle.std.specs.Int.{int_div_euclid}
use Rattle.pm_base.specs.Place.{Place}

-- The midpoint, with each coordinate rounded down.
abbrev pub midpoint : Place → Place → Place
midpoint t u =
    record {
      x = int_div_euclid (t.x +ℤ u.x) (pos 2);
      y = int_div_euclid (t.y +ℤ u.y) (pos 2);
      z =
          int_div_euclid (t.z +ℤ u.z) (pos 2);
    }

-- The first of three places at which a value is least.
abbrev pub first_least : (Place → ℕ) → Place → Place → Place → Place
first_least value a b c = if nat_le (value a) (value b) && nat_le (value a) (value c) then a
    else (if nat_le (value b) (value c) then b else c)

-- The first of t, u and their midpoint at which a value is least.
abbrev pub least_place : (Place → ℕ) → Place → Place → Place
least_place value t u = first_least value t u (midpoint t u)

-- No candidate has a lesser value than this place.
pub record IsLeastPlace (value : Place → ℕ) (best t u : Place) : Type 0 where
  pub first : value best ≤ value t
  pub second : value best ≤ value u
  pub middle : value best ≤ value (midpoint t u)
