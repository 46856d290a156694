-- The polynomial of a list's sums is the sum of the planes' squared values.
use Rattle.std.proofs.Common.{◌≡◌, ◌+◌, List, [], ◌∷◌, ◌++◌, refl, ◌∙◌, arith, add_assoc, zero-add}
use Rattle.std.proofs.lemmas.Grind.{common_steps}
use Rattle.std.specs.Prelude.{ℤ, pos, ◌+ℤ◌, ◌*ℤ◌}
use Rattle.std.proofs.Math.IntN.{+ℤ_assoc, +ℤ_idl, +ℤ_idr}
use borrow.Author.Differences.{ints}
use Rattle.pm_base.specs.Place.{Place}
use Rattle.pm_base.proofs.Ring.{diff-of, diff_same, add-diff, mul-diff, pos_is_diff}
use Rattle.pm_base.proofs.Squares.{square_is}
use Rattle.pm_quadric.specs.Planes.{Plane, plane_value, squared_value, squares_of}
use Rattle.pm_quadric.specs.Sums.{Sums, plus_sums, coefficients, sums_of}
use Rattle.pm_quadric.specs.Expanded.{polynomial}

-- A sum times a number.
pub sum_times : (s t m : ℤ) → (s +ℤ t) *ℤ m ≡ s *ℤ m +ℤ t *ℤ m
sum_times s t m =
    rw (diff-of s, diff-of t, diff-of m)
    (simp (add-diff, mul-diff) (diff_same _ _ _ _ (omega arith)))

-- The polynomial of two sums is the sum of both polynomials.
ten_sums : (a b c d e f g h i j a' b' c' d' e' f' g' h' i' j' : ℤ)
    → ((a +ℤ a') +ℤ (b +ℤ b') +ℤ (c +ℤ c')) +ℤ ((d +ℤ d') +ℤ (e +ℤ e') +ℤ (f +ℤ f')) +ℤ
    ((g +ℤ g') +ℤ (h +ℤ h') +ℤ (i +ℤ i')) +ℤ (j +ℤ j')
    ≡ ((a +ℤ b +ℤ c) +ℤ (d +ℤ e +ℤ f) +ℤ (g +ℤ h +ℤ i) +ℤ j) +ℤ
    ((a' +ℤ b' +ℤ c') +ℤ (d' +ℤ e' +ℤ f') +ℤ (g' +ℤ h' +ℤ i') +ℤ j')
ten_sums a b c d e f g h i j a' b' c' d' e' f' g' h' i' j' = omega (arith, ints)

pub polynomial-plus : (s t : Sums) (p : Place)
    → polynomial (plus_sums s t) p ≡ polynomial s p +ℤ polynomial t p
unfolding polynomial
polynomial-plus s t p = grind (arith, common_steps, ten_sums, sum_times)

-- The square of a plane's value, multiplied out.
multiplied_out : (a b c d x y z : ℤ)
    → (a *ℤ a *ℤ (x *ℤ x) +ℤ b *ℤ b *ℤ (y *ℤ y) +ℤ c *ℤ c *ℤ (z *ℤ z)) +ℤ
    (pos 2 *ℤ (a *ℤ b) *ℤ (x *ℤ y) +ℤ pos 2 *ℤ (a *ℤ c) *ℤ (x *ℤ z) +ℤ pos 2 *ℤ (b *ℤ c) *ℤ
    (y *ℤ z)) +ℤ (pos 2 *ℤ (a *ℤ d) *ℤ x +ℤ pos 2 *ℤ (b *ℤ d) *ℤ y +ℤ pos 2 *ℤ (c *ℤ d) *ℤ z) +ℤ d
    *ℤ d
    ≡ (a *ℤ x +ℤ b *ℤ y +ℤ c *ℤ z +ℤ d) *ℤ (a *ℤ x +ℤ b *ℤ y +ℤ c *ℤ z +ℤ d)
multiplied_out a b c d x y z =
    rw (diff-of a, diff-of b, diff-of c, diff-of d, diff-of x, diff-of y, diff-of z, pos_is_diff 2)
    (simp (add-diff, mul-diff) (diff_same _ _ _ _ (omega arith)))

pub polynomial-coefficients : (f : Plane) (p : Place)
    → polynomial (coefficients f) p ≡ pos (squared_value f p)
unfolding polynomial
polynomial-coefficients f p =
    multiplied_out f.a f.b f.c f.d p.x p.y p.z ∙ square_is (plane_value f p)

polynomial-zero : (p : Place) → polynomial (sums_of []) p ≡ pos 0
unfolding polynomial
polynomial-zero p = omega (arith, ints)

pub polynomial-sums : (fs : List Plane) (p : Place)
    → polynomial (sums_of fs) p ≡ pos (squares_of fs p)
polynomial-sums [] p = polynomial-zero p
polynomial-sums (f ∷ fs) p =
    polynomial-plus (coefficients f) (sums_of fs) p
    ∙ rw (polynomial-coefficients f p, polynomial-sums fs p) refl

-- The sums of two lists joined, and of one plane.
pub sums-append : (fs gs : List Plane) → sums_of (fs ++ gs) ≡ plus_sums (sums_of fs) (sums_of gs)
sums-append [] gs = simp (+ℤ_idl, zero-add)
sums-append (f ∷ fs) gs = rw (sums-append fs gs) (simp (+ℤ_assoc, add_assoc))

pub sums-one : (f : Plane) → sums_of (f ∷ []) ≡ coefficients f
sums-one f = simp +ℤ_idr

-- The squares of two lists joined.
pub squares-append : (fs gs : List Plane) (p : Place)
    → squares_of (fs ++ gs) p ≡ squares_of fs p + squares_of gs p
squares-append [] gs p = omega arith
squares-append (f ∷ fs) gs p = omega (arith, squares-append fs gs p)
