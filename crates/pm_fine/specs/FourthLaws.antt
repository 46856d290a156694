-- What the definition of the fourth candidate gives: laws, and rows worked by hand.
use Rattle.std.specs.Prelude.{◌≡◌, ◌≤◌, ◌+◌, ◌-◌, ◌*◌, ◌^◌, true, int_lt, unsigned_abs, ℕ, ℤ, pos}
use Rattle.std.specs.Prelude.{negsuc, ◌-ℤ◌, ◌*ℤ◌, List, [], ◌∷◌, Option, None, Some, IfSome}
use Rattle.pm_base.specs.Place.{Place, IsPlace}
use Rattle.pm_quadric.specs.Planes.{Plane, squares_of}
use Rattle.pm_quadric.specs.Sums.{Sums, sums_of}
use Rattle.pm_quadric.specs.Candidates.{midpoint}
use Rattle.pm_fine.specs.declared.matrix.Matrix.{Matrix}
use Rattle.pm_fine.specs.declared.matrix.Vector.{Vector}
use Rattle.pm_fine.specs.Fourth.{matrix_of, half_gradient, times_of, cofactors_of, determinant_of}
use Rattle.pm_fine.specs.Fourth.{matrix_digits, digits_above, is_within, reach_of, fourth_place_of}

abbrev pub no_vector : Vector
no_vector = record { x = pos 0; y = pos 0; z = pos 0 }

-- Where its gradient is 0 a value is least of all places.
abbrev pub LeastWhereLevel : Type 0
LeastWhereLevel =
    (fs : List Plane) (p q : Place) → half_gradient (sums_of fs) p ≡ no_vector →
    squares_of fs p ≤ squares_of fs q

-- k u
abbrev pub multiplied : ℤ → Vector → Vector
multiplied k u = record { x = k *ℤ u.x; y = k *ℤ u.y; z = k *ℤ u.z }

-- Cramer's rule: where A u = b, the cofactors times b are u times the determinant.
abbrev pub CofactorsSolve : Type 0
CofactorsSolve =
    (a : Matrix) (u : Vector) →
    times_of (cofactors_of a) (times_of a u) ≡ multiplied (determinant_of a) u

-- The value is least at p, which is near the midpoint m of t and u, as a reach says. The matrix has
-- one such place, and no number loses a digit.
pub record IsInSight (s : Sums) (m p : Place) (reach : ℕ) : Type 0 where
  pub place : IsPlace p
  pub level : half_gradient s p ≡ no_vector
  pub one : int_lt (pos 0) (determinant_of (matrix_of s)) ≡ true
  pub matrix : matrix_digits (matrix_of s) ≡ 0
  pub gradient : is_within (2 ^ 52 - 1) (half_gradient s m) ≡ true
  pub determinant : digits_above 42 (unsigned_abs (determinant_of (matrix_of s))) ≡ 0
  pub x : unsigned_abs (p.x -ℤ m.x) ≤ 4 * reach + 1
  pub y : unsigned_abs (p.y -ℤ m.y) ≤ 4 * reach + 1
  pub z : unsigned_abs (p.z -ℤ m.z) ≤ 4 * reach + 1

-- Such a place is the fourth candidate.
abbrev pub LeastIsFound : Type 0
LeastIsFound =
    (s : Sums) (t u p : Place) → let m = midpoint t u in IsInSight s m p (reach_of m t u) →
    fourth_place_of s t u ≡ Some p

-- Whatever the sums are, a fourth candidate is a place.
abbrev pub FourthIsAPlace : Type 0
FourthIsAPlace = (s : Sums) (t u : Place) → IfSome (fourth_place_of s t u) IsPlace

abbrev pub at : ℤ → ℤ → ℤ → Place
at x y z = record { x = x; y = y; z = z }

abbrev pub plane : ℤ → ℤ → ℤ → ℤ → Plane
plane a b c d = record { a = a; b = b; c = c; d = d }

-- The fourth candidate of (0, 0, 0) and (4, 0, 4).
abbrev pub fourth_by : List Plane → Option Place
fourth_by fs =
    fourth_place_of (sums_of fs) (at (pos 0) (pos 0) (pos 0)) (at (pos 4) (pos 0) (pos 4))

-- x = 2, y = -1 and 3 x + z = 9 meet in one point. The number -1 is negsuc 0.
abbrev pub meeting : List Plane
meeting =
    plane (pos 1) (pos 0) (pos 0) (negsuc 1) ∷ plane (pos 0) (pos 1) (pos 0) (pos 1) ∷
    plane (pos 3) (pos 0) (pos 1) (negsuc 8) ∷ []

-- x = 3 / 2, y = 1 / 2 and z = 2 do at no point of the grid.
abbrev pub between : List Plane
between =
    plane (pos 2) (pos 0) (pos 0) (negsuc 2) ∷ plane (pos 0) (pos 2) (pos 0) (negsuc 0) ∷
    plane (pos 0) (pos 0) (pos 1) (negsuc 1) ∷ []

-- The first three with normals as long as they can be: digits are dropped.
abbrev pub long : List Plane
long =
    plane (pos 134217728) (pos 0) (pos 0) (negsuc 268435455) ∷
    plane (pos 0) (pos 134217728) (pos 0) (pos 134217728) ∷
    plane (pos 0) (pos 0) (pos 134217728) (negsuc 402653183) ∷ []

-- x = 2 and z = 3 meet in a line.
abbrev pub along_a_line : List Plane
along_a_line =
    plane (pos 1) (pos 0) (pos 0) (negsuc 1) ∷ plane (pos 0) (pos 0) (pos 1) (negsuc 2) ∷ []

-- The greatest y of a place near to these two is 9: y = 10 is too far from their midpoint.
abbrev pub at_height : ℤ → List Plane
at_height d =
    plane (pos 1) (pos 0) (pos 0) (negsuc 1) ∷ plane (pos 0) (pos 1) (pos 0) d ∷
    plane (pos 0) (pos 0) (pos 1) (negsuc 1) ∷ []

pub record AreFourthPlaces : Type 0 where
  pub meeting : fourth_by meeting ≡ Some (at (pos 2) (negsuc 0) (pos 3))
  pub between : fourth_by between ≡ Some (at (pos 2) (pos 1) (pos 2))
  pub long : fourth_by long ≡ Some (at (pos 2) (negsuc 0) (pos 3))
  pub along_a_line : fourth_by along_a_line ≡ None
  pub near : fourth_by (at_height (negsuc 8)) ≡ Some (at (pos 2) (pos 9) (pos 2))
  pub far : fourth_by (at_height (negsuc 9)) ≡ None
