-- The places that a collapsed pair can take where its ends have fine planes, and which of them it
-- takes.
use Rattle.std.specs.Prelude.{ℕ, ◌≤◌, nat_lt, if◌then◌else◌, List, [], ◌∷◌, Option, None, Some}
use Rattle.pm_base.specs.Place.{Place}
use Rattle.pm_quadric.specs.Candidates.{midpoint}

-- Of two places the first, unless the second has a lesser value.
abbrev pub lesser : (Place → ℕ) → Place → Place → Place
lesser value a b = if nat_lt (value b) (value a) then b else a

-- The first of a list's places at which a value is least; the place before the list is the first of
-- all.
abbrev pub first_least_of : (Place → ℕ) → Place → List Place → Place
first_least_of value a [] = a
first_least_of value a (b ∷ rest) = first_least_of value (lesser value a b) rest

-- The candidates after t: the other end, the midpoint, and a fourth where there is one.
abbrev pub others_of : Place → Place → Option Place → List Place
others_of t u None = u ∷ midpoint t u ∷ []
others_of t u (Some c) = u ∷ midpoint t u ∷ c ∷ []

-- The first of t, u, their midpoint and the fourth at which a value is least.
abbrev pub fine_place_of : (Place → ℕ) → Place → Place → Option Place → Place
fine_place_of value t u fourth = first_least_of value t (others_of t u fourth)

-- No place of the list has a lesser value than this one.
abbrev pub IsLeastOf : (Place → ℕ) → Place → List Place → Type 0
IsLeastOf value best [] = Unit {0}
IsLeastOf value best (p ∷ rest) = (value best ≤ value p) × IsLeastOf value best rest
