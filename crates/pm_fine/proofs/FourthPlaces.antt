-- The fourth candidate from the answers of the functions that test and move it, and that it is a
-- place.
use Rattle.std.proofs.Common.{◌≡◌, ℕ, ◌+◌, ◌-◌, ◌*◌, ◌/◌, ◌^◌, ◌≤◌, Bool, true, false}
use Rattle.std.proofs.Common.{refl, sym, ap, ◌∙◌}
use Rattle.std.specs.Prelude.{ℤ, pos, ◌+ℤ◌, int_lt, nat_le, ◌&&◌, cond, unsigned_abs}
use Rattle.std.specs.Prelude.{Option, None, Some, IfSome, OnSome, IfNone}
use Rattle.std.specs.Int.{int_shr}
use Rattle.std.proofs.lemmas.Bool.{cond-true, cond-false, and_parts, leb-true}
use Rattle.pm_base.specs.declared.limits.TheConstants.{GREATEST_COORDINATE}
use Rattle.pm_base.specs.Place.{Place, IsPlace, is_place}
use Rattle.pm_quadric.specs.Sums.{Sums}
use Rattle.pm_quadric.specs.Candidates.{midpoint}
use Rattle.pm_fine.specs.declared.matrix.Matrix.{Matrix}
use Rattle.pm_fine.specs.declared.matrix.Vector.{Vector}
use Rattle.pm_fine.specs.Rounded.{near}
use Rattle.pm_fine.specs.Fourth.{is_within, digits_above, short, placed, moved_by, quotients_place}
use Rattle.pm_fine.specs.Fourth.{solved_place, times_of, cofactors_of, determinant_of, reversed}
use Rattle.pm_fine.specs.Fourth.{fourth_place_of, matrix_of, matrix_digits, short_matrix}
use Rattle.pm_fine.specs.Fourth.{half_gradient, reach_of}
use Rattle.pm_fine.specs.FourthLaws.{FourthIsAPlace}

-- A point from its numbers, if it is one.
pub point_is : (r : Option Place) (p : Place) → IfSome r (λ (q : Place). q ≡ p)
    → OnSome r (is_place p ≡ true) → IfNone r (is_place p ≡ false) → r ≡ placed p
point_is (Some q) p e it_is other =
    ap (λ (v : Place). Some v) e ∙ sym (cond-true (is_place p) (Some p) None it_is)
point_is None p e it_is other = sym (cond-false (is_place p) (Some p) None other)

-- The answers of the functions, one in the other's place.
where_so : (b : Bool) (o r : Option Place) → b ≡ true → r ≡ o → r ≡ cond b o None
where_so b o r h e = e ∙ sym (cond-true b o None h)

-- whether no quotient of n and d is greater than four times the reach and one
abbrev pub is_near : ℕ → Vector → ℤ → Bool
is_near reach n d = int_lt (pos 0) d && is_within ((4 * reach + 1) * unsigned_abs d) n

pub quotients_is : (m : Place) (reach : ℕ) (n : Vector) (det : ℤ) (k d : ℕ) (x y z : ℤ)
    (o : Option Place) → is_near reach n det ≡ true → k ≡ digits_above 42 (unsigned_abs det)
    → d ≡ unsigned_abs det / 2 ^ k → x ≡ near (int_shr n.x k) d → y ≡ near (int_shr n.y k) d
    → z ≡ near (int_shr n.z k) d
    → o ≡ placed (record { x = m.x +ℤ x; y = m.y +ℤ y; z = m.z +ℤ z })
    → o ≡ quotients_place m reach n det
quotients_is m reach n det k d x y z o test ek ed ex ey ez eo =
    let j = digits_above 42 (unsigned_abs det) in
    let p : Place = moved_by m (short j n) (unsigned_abs det / 2 ^ j) in
    where_so (is_near reach n det) (placed p) o test (eo ∙ rw (ex, ey, ez, ed, ek) refl)

pub solved_is : (m : Place) (reach : ℕ) (a c : Matrix) (g r n : Vector) (d : ℤ) (o : Option Place)
    → is_within (2 ^ 52 - 1) g ≡ true → c ≡ cofactors_of a → r ≡ reversed g → n ≡ times_of c r
    → d ≡ determinant_of a → o ≡ quotients_place m reach n d → o ≡ solved_place m reach a g
solved_is m reach a c g r n d o test ec er en ed eo =
    let v : Vector = times_of (cofactors_of a) (reversed g) in
    let q = quotients_place m reach v (determinant_of a) in
    where_so (is_within (2 ^ 52 - 1) g) q o test (eo ∙ rw (en, ec, er, ed) refl)

pub fourth_is : (s : Sums) (t u m : Place) (reach k : ℕ) (a b : Matrix) (g h : Vector)
    (o : Option Place) → m ≡ midpoint t u → reach ≡ reach_of m t u → a ≡ matrix_of s
    → k ≡ matrix_digits a → b ≡ short_matrix k a → g ≡ half_gradient s m → h ≡ short k g
    → o ≡ solved_place m reach b h → o ≡ fourth_place_of s t u
unfolding fourth_place_of
fourth_is s t u m reach k a b g h o em er ea ek eb eg eh eo =
    eo ∙ rw (eh, eg, eb, ek, ea, er, em) refl

-- Each fourth candidate is a place.
three_are : (a b c m : ℕ) → (nat_le a m && nat_le b m && nat_le c m) ≡ true
    → (a ≤ m) × (b ≤ m) × (c ≤ m)
three_are a b c m h =
    let abc = and_parts (nat_le a m && nat_le b m) (nat_le c m) h in
    let ab = and_parts (nat_le a m) (nat_le b m) abc.0 in
    (leb-true a m ab.0, leb-true b m ab.1, leb-true c m abc.1)

place_is : (p : Place) → is_place p ≡ true → IsPlace p
place_is p h =
    three_are (unsigned_abs p.x) (unsigned_abs p.y) (unsigned_abs p.z) GREATEST_COORDINATE h

still_place : (b : Bool) (o : Option Place) → (b ≡ true → IfSome o IsPlace)
    → IfSome (cond b o None) IsPlace
still_place true o h = h refl
still_place false o h = tt

placed_is : (p : Place) → IfSome (placed p) IsPlace
placed_is p = still_place (is_place p) (Some p) (place_is p)

quotients_are : (m : Place) (reach : ℕ) (n : Vector) (d : ℤ)
    → IfSome (quotients_place m reach n d) IsPlace
quotients_are m reach n d =
    let k = digits_above 42 (unsigned_abs d) in
    let p : Place = moved_by m (short k n) (unsigned_abs d / 2 ^ k) in
    still_place (is_near reach n d) (placed p) (λ _. placed_is p)

solved_are : (m : Place) (reach : ℕ) (a : Matrix) (g : Vector)
    → IfSome (solved_place m reach a g) IsPlace
solved_are m reach a g =
    let n : Vector = times_of (cofactors_of a) (reversed g) in
    let d = determinant_of a in
    still_place (is_within (2 ^ 52 - 1) g) (quotients_place m reach n d)
    (λ _. quotients_are m reach n d)

pub fourth_is_a_place : FourthIsAPlace
unfolding fourth_place_of
fourth_is_a_place s t u =
    let m : Place = midpoint t u in
    let k = matrix_digits (matrix_of s) in
    solved_are m (reach_of m t u) (short_matrix k (matrix_of s)) (short k (half_gradient s m))
