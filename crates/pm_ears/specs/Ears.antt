-- Cutting by ears: a triangle is taken off, and its second corner goes.
use Rattle.std.specs.Prelude.{ℕ, zero, suc, ◌+◌, ◌-◌, ◌==◌, pos, int_lt, Bool, ◌&&◌, List, [], ◌∷◌}
use Rattle.std.specs.Prelude.{Option, None, Some, length, if◌then◌else◌}
use Rattle.std.specs.List.{remove}
use Rattle.std.specs.Ordering.{int_eq}
use Rattle.std.specs.Option.{option_or, option_map, option_and_then}
use Rattle.pm_ears.specs.declared.spots.Spot.{Spot}
use Rattle.pm_ears.specs.declared.spots.Triangle.{Triangle}
use Rattle.pm_ears.specs.Areas.{twice_area_of, inside_of, triangle_at}

-- The triangle of corner i and the two after it is an ear of the corners that are left: it has an
-- area above 0, and none of them lies in it.
abbrev pub is_ear : List Spot → ℕ → Bool
is_ear left i =
    int_lt (pos 0) (twice_area_of (triangle_at left i)) &&
    (inside_of (triangle_at left i) left == 0)

-- It has no area.
abbrev pub is_flat : List Spot → ℕ → Bool
is_flat left i = int_eq (twice_area_of (triangle_at left i)) (pos 0)

-- The first of n numbers from i on that passes a test.
abbrev pub first_from : (ℕ → Bool) → ℕ → ℕ → Option ℕ
first_from test i zero = None
first_from test i (suc n) = if test i then Some i else first_from test (i + 1) n

-- The first ear; where there is none, the first triangle without an area.
unfoldable pub next_ear : List Spot → Option ℕ
next_ear left =
    option_or (first_from (is_ear left) 0 (length left - 2))
    (first_from (is_flat left) 0 (length left - 2))

-- The corners that are left when the triangle of corner i and the two after it is off.
abbrev pub without : List Spot → ℕ → List Spot
without left i = remove left (i + 1)

-- The triangles that come off one after the other, n of them, where each time there is one.
abbrev pub ears : ℕ → List Spot → Option (List Triangle)
ears zero left = Some []
ears (suc n) left =
    option_and_then (λ i. option_map (λ ts. triangle_at left i ∷ ts) (ears n (without left i)))
    (next_ear left)
