-- A place where a value is least is found, where it is near and no number loses a digit.
use Rattle.std.proofs.Common.{◌≡◌, ℕ, ◌+◌, ◌-◌, ◌*◌, ◌/◌, ◌^◌, ◌<◌, ◌≤◌, true, refl}
use Rattle.std.proofs.Common.{sym, ap, ◌∙◌, arith}
use Rattle.std.proofs.Math.Nat.{le_refl}
use Rattle.std.specs.Prelude.{ℤ, pos, negsuc, neg_ℤ, ◌+ℤ◌, ◌-ℤ◌, ◌*ℤ◌, int_lt, nat_le}
use Rattle.std.specs.Prelude.{unsigned_abs, None, Some}
use Rattle.std.specs.Int.{int_shr, int_div_euclid}
use Rattle.std.proofs.lemmas.Bool.{cond-true, and_from, le-leb, lt-ltb, ltb-true}
use Rattle.std.proofs.lemmas.Nat.{div-mul-add, mul-le}
use Rattle.std.proofs.lemmas.Int.{unsigned_abs-mul}
use borrow.Author.Differences.{ints, product_is}
use Rattle.pm_base.specs.declared.limits.TheConstants.{GREATEST_COORDINATE}
use Rattle.pm_base.specs.Place.{Place, IsPlace, is_place}
use Rattle.pm_base.proofs.Ring.{diff-of, diff_same, add-diff, mul-diff, neg-diff}
use Rattle.pm_quadric.specs.Sums.{Sums}
use Rattle.pm_quadric.specs.Candidates.{midpoint}
use Rattle.pm_fine.specs.declared.matrix.Matrix.{Matrix}
use Rattle.pm_fine.specs.declared.matrix.Vector.{Vector}
use Rattle.pm_fine.specs.Rounded.{near}
use Rattle.pm_fine.specs.Fourth.{half, matrix_of, half_gradient, times_of, cofactors_of, reversed}
use Rattle.pm_fine.specs.Fourth.{determinant_of, digits_above, matrix_digits, short_matrix, short}
use Rattle.pm_fine.specs.Fourth.{is_within, is_near, reach_of, moved_by, placed, quotients_place}
use Rattle.pm_fine.specs.Fourth.{solved_place, fourth_place_of}
use Rattle.pm_fine.specs.FourthLaws.{no_vector, multiplied, LeastIsFound}
use Rattle.pm_fine.proofs.CramerLaws.{cofactors_solve}

-- With no digit dropped.
shr_none : (z : ℤ) → int_shr z 0 ≡ z
shr_none (pos n) = omega (arith, ints)
shr_none (negsuc n) = omega (arith, ints)

matrix_none : (a : Matrix) → short_matrix 0 a ≡ a
matrix_none a =
    rw (shr_none a.xx, shr_none a.xy, shr_none a.xz, shr_none a.yy, shr_none a.yz, shr_none a.zz)
    refl

vector_none : (u : Vector) → short 0 u ≡ u
vector_none u = rw (shr_none u.x, shr_none u.y, shr_none u.z) refl

kept : (m : Place) (reach k : ℕ) (a : Matrix) (g : Vector) → k ≡ 0
    → solved_place m reach (short_matrix k a) (short k g) ≡ solved_place m reach a g
kept m reach k a g e =
    ap (λ (j : ℕ). solved_place m reach (short_matrix j a) (short j g)) e
    ∙ (ap (λ (b : Matrix). solved_place m reach b (short 0 g)) (matrix_none a)
    ∙ ap (λ (v : Vector). solved_place m reach a v) (vector_none g))

-- From m to a place p without gradient: A (p - m) = - g.
way : Place → Place → Vector
way m p = record { x = p.x -ℤ m.x; y = p.y -ℤ m.y; z = p.z -ℤ m.z }

row_apart : (a b c g x y z r s t : ℤ)
    → a *ℤ (r -ℤ x) +ℤ b *ℤ (s -ℤ y) +ℤ c *ℤ (t -ℤ z)
    ≡ (a *ℤ r +ℤ b *ℤ s +ℤ c *ℤ t +ℤ g) -ℤ (a *ℤ x +ℤ b *ℤ y +ℤ c *ℤ z +ℤ g)
row_apart a b c g x y z r s t =
    rw (diff-of a, diff-of b, diff-of c, diff-of g, diff-of x, diff-of y, diff-of z)
    (rw (diff-of r, diff-of s, diff-of t)
    (simp (add-diff, neg-diff, mul-diff) (diff_same _ _ _ _ (omega arith))))

from_none : (v w z : ℤ) → z ≡ v -ℤ w → v ≡ pos 0 → z ≡ neg_ℤ w
from_none v w z e h = omega (arith, ints)

way_solves : (s : Sums) (m p : Place) → half_gradient s p ≡ no_vector
    → times_of (matrix_of s) (way m p) ≡ reversed (half_gradient s m)
unfolding way
way_solves s m p h =
    let a = matrix_of s in
    let x = row_apart a.xx a.xy a.xz (half s.x) m.x m.y m.z p.x p.y p.z in
    let y = row_apart a.xy a.yy a.yz (half s.y) m.x m.y m.z p.x p.y p.z in
    let z = row_apart a.xz a.yz a.zz (half s.z) m.x m.y m.z p.x p.y p.z in
    rw (
      from_none _ _ _ x (ap (λ (v : Vector). v.x) h),
      from_none _ _ _ y (ap (λ (v : Vector). v.y) h),
      from_none _ _ _ z (ap (λ (v : Vector). v.z) h),
    ) refl

-- The quotient of a product by its factor.
quotient_is : (n : ℕ) (w : ℤ) → 0 < n → near (pos n *ℤ w) n ≡ w
quotient_is n (pos j) some =
    let e : 2 * (n * j) + n ≡ j * (2 * n) + n = omega arith in
    let q = ap (λ (t : ℕ). t / (2 * n)) e ∙ div-mul-add j (2 * n) n (omega arith) in
    ap (λ (t : ℕ). pos t) q
quotient_is n (negsuc j) some =
    let v = pos n *ℤ negsuc j in
    let e : pos 2 *ℤ v +ℤ pos n ≡ negsuc (j * (2 * n) + (n - 1)) =
    omega (arith, ints, product_is (pos n) (negsuc j), product_is (pos 2) v) in
    ap (λ (z : ℤ). int_div_euclid z (pos (2 * n))) e
    ∙ ap (λ (t : ℕ). negsuc t) (div-mul-add j (2 * n) (n - 1) (omega arith))

moved_is : (m p : Place) (n : ℕ) → 0 < n → moved_by m (multiplied (pos n) (way m p)) n ≡ p
unfolding way
moved_is m p n some =
    let x : m.x +ℤ near (pos n *ℤ (p.x -ℤ m.x)) n ≡ p.x =
    rw (quotient_is n (p.x -ℤ m.x) some) (omega (arith, ints)) in
    let y : m.y +ℤ near (pos n *ℤ (p.y -ℤ m.y)) n ≡ p.y =
    rw (quotient_is n (p.y -ℤ m.y) some) (omega (arith, ints)) in
    let z : m.z +ℤ near (pos n *ℤ (p.z -ℤ m.z)) n ≡ p.z =
    rw (quotient_is n (p.z -ℤ m.z) some) (omega (arith, ints)) in
    rw (x, y, z) refl

-- The tests.
product_within : (n m : ℕ) (w : ℤ) → unsigned_abs w ≤ m
    → nat_le (unsigned_abs (pos n *ℤ w)) (m * n) ≡ true
product_within n m w h =
    le-leb (unsigned_abs (pos n *ℤ w)) (m * n)
    (omega (arith, unsigned_abs-mul (pos n) w, mul-le (unsigned_abs w) n m n h (le_refl n)))

IsShort : ℕ → Vector → Type 0
IsShort m w = (unsigned_abs w.x ≤ m) × (unsigned_abs w.y ≤ m) × (unsigned_abs w.z ≤ m)

near_is : (n reach : ℕ) (w : Vector) → 0 < n → IsShort (4 * reach + 1) w
    → is_near reach (multiplied (pos n) w) (pos n) ≡ true
unfolding IsShort
near_is n reach w some h =
    let m = 4 * reach + 1 in
    let x = product_within n m w.x h.0 in
    let y = product_within n m w.y h.1 in
    let z = product_within n m w.z h.2 in
    and_from _ _ (lt-ltb 0 n some) (and_from _ _ (and_from _ _ x y) z)

placed_so : (p : Place) → IsPlace p → placed p ≡ Some p
placed_so p h =
    let x = le-leb (unsigned_abs p.x) GREATEST_COORDINATE h.0 in
    let y = le-leb (unsigned_abs p.y) GREATEST_COORDINATE h.1 in
    let z = le-leb (unsigned_abs p.z) GREATEST_COORDINATE h.2 in
    cond-true (is_place p) (Some p) None (and_from _ _ (and_from _ _ x y) z)

-- The quotients, by a determinant n that loses no digit.
quotients_found : (m p : Place) (reach n : ℕ) → 0 < n → digits_above 42 n ≡ 0
    → IsShort (4 * reach + 1) (way m p) → IsPlace p
    → quotients_place m reach (multiplied (pos n) (way m p)) (pos n) ≡ Some p
quotients_found m p reach n some none near place =
    let v : Vector = multiplied (pos n) (way m p) in
    let at : ℕ → Place = λ k. moved_by m (short k v) (n / 2 ^ k) in
    let d : n / 2 ^ 0 ≡ n = omega arith in
    let e : at (digits_above 42 n) ≡ p =
    ap at none
    ∙ (ap (λ (u : Vector). moved_by m u (n / 2 ^ 0)) (vector_none v)
    ∙ (ap (λ (k : ℕ). moved_by m v k) d ∙ moved_is m p n some)) in
    cond-true (is_near reach v (pos n)) (placed (at (digits_above 42 n))) None
    (near_is n reach (way m p) some near)
    ∙ (ap (λ (q : Place). placed q) e ∙ placed_so p place)

solved_found : (m p : Place) (reach n : ℕ) (a : Matrix) (g : Vector) → determinant_of a ≡ pos n
    → 0 < n → digits_above 42 n ≡ 0 → times_of a (way m p) ≡ reversed g
    → is_within (2 ^ 52 - 1) g ≡ true → IsShort (4 * reach + 1) (way m p) → IsPlace p
    → solved_place m reach a g ≡ Some p
solved_found m p reach n a g det some none solves small near place =
    let w : Vector = way m p in
    let c : Matrix = cofactors_of a in
    let v : times_of c (reversed g) ≡ multiplied (pos n) w =
    ap (λ (u : Vector). times_of c u) (sym solves)
    ∙ (cofactors_solve a w ∙ ap (λ (d : ℤ). multiplied d w) det) in
    let q = quotients_place m reach (times_of c (reversed g)) (determinant_of a) in
    cond-true (is_within (2 ^ 52 - 1) g) q None small
    ∙ (ap (λ (u : Vector). quotients_place m reach u (determinant_of a)) v
    ∙ (ap (λ (d : ℤ). quotients_place m reach (multiplied (pos n) w) d) det
    ∙ quotients_found m p reach n some none near place))

above_none : (d : ℤ) → int_lt (pos 0) d ≡ true → (d ≡ pos (unsigned_abs d)) × (0 < unsigned_abs d)
above_none (pos n) h = (refl, ltb-true 0 n h)
above_none (negsuc n) h = absurd (search (arith, h))

pub least_is_found : LeastIsFound
unfolding fourth_place_of IsShort way
least_is_found s t u p h =
    let m : Place = midpoint t u in
    let reach = reach_of m t u in
    let a : Matrix = matrix_of s in
    let g : Vector = half_gradient s m in
    let d = above_none (determinant_of a) h.one in
    let near : IsShort (4 * reach + 1) (way m p) = (h.x, h.y, h.z) in
    kept m reach (matrix_digits a) a g h.matrix
    ∙ solved_found m p reach (unsigned_abs (determinant_of a)) a g d.0 d.1 h.determinant
    (way_solves s m p h.level) h.gradient near h.place
