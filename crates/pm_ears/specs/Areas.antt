-- Corners on a plane, signed areas, and what lies in a triangle.
use Rattle.std.specs.Prelude.{ℕ, ◌+◌, ℤ, pos, ◌+ℤ◌, ◌-ℤ◌, ◌*ℤ◌, int_lt, Bool, not, ◌&&◌, ◌||◌, List}
use Rattle.std.specs.Prelude.{[], ◌∷◌, slice_index_or}
use Rattle.std.specs.Ordering.{int_eq}
use Rattle.pm_base.specs.Counts.{one_if}
use Rattle.pm_ears.specs.declared.spots.Spot.{Spot}
use Rattle.pm_ears.specs.declared.spots.Triangle.{Triangle}

-- Twice the signed area of the triangle of the middle, p and q, which is above 0 where these run
-- counterclockwise.
unfoldable pub cross_of : Spot → Spot → ℤ
cross_of p q = p.x *ℤ q.y -ℤ p.y *ℤ q.x

-- Twice the signed area of a triangle.
abbrev pub twice_area_of : Triangle → ℤ
twice_area_of t = cross_of t.a t.b +ℤ cross_of t.b t.c +ℤ cross_of t.c t.a

-- The same of what a path sees from the middle,
abbrev pub along : List Spot → ℤ
along (p ∷ q ∷ more) = cross_of p q +ℤ along (q ∷ more)
along _ = pos 0

-- where the path that begins at p ends,
abbrev pub last_from : Spot → List Spot → Spot
last_from p [] = p
last_from p (q ∷ more) = last_from q more

-- and of a polygon, which comes back to its first corner (the shoelace formula).
abbrev pub twice_area_within : List Spot → ℤ
twice_area_within [] = pos 0
twice_area_within (p ∷ more) = along (p ∷ more) +ℤ cross_of (last_from p more) p

-- Two corners stand at one place.
abbrev pub is_at : Spot → Spot → Bool
is_at p q = int_eq p.x q.x && int_eq p.y q.y

-- p stands to the right of the line from a to b.
abbrev pub is_right_of : Spot → Spot → Spot → Bool
is_right_of a b p = int_lt (twice_area_of (record { a = a; b = b; c = p })) (pos 0)

-- p stands at one of a triangle's three places.
abbrev pub is_corner : Triangle → Spot → Bool
is_corner t p = is_at t.a p || is_at t.b p || is_at t.c p

-- p stands outside a triangle that isn't turned over.
abbrev pub is_outside : Triangle → Spot → Bool
is_outside t p = is_right_of t.a t.b p || is_right_of t.b t.c p || is_right_of t.c t.a p

-- p lies in a triangle that isn't turned over, or on its border, but at none of its three places.
unfoldable pub lies_in : Triangle → Spot → Bool
lies_in t p = not (is_corner t p) && not (is_outside t p)

-- How many of these corners lie in a triangle.
unfoldable pub inside_of : Triangle → List Spot → ℕ
inside_of t [] = 0
inside_of t (p ∷ more) = one_if (lies_in t p) + inside_of t more

-- What stands past the last corner.
abbrev pub nowhere : Spot
nowhere = record { position = 0; x = pos 0; y = pos 0 }

-- The triangle of corner i and the two after it.
abbrev pub triangle_at : List Spot → ℕ → Triangle
triangle_at spots i = record {
  a = slice_index_or spots i nowhere;
  b = slice_index_or spots (i + 1) nowhere;
  c = slice_index_or spots (i + 2) nowhere;
}
