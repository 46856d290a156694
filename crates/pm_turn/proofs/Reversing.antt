-- The choice between the two ways round of a patch, by the patch's sums.
use Rattle.std.proofs.lemmas.Grind.{common_steps}
use Rattle.std.proofs.Common.{◌≡◌, ◌≢◌, ◌⊎◌, inl, inr, refl, ap, ◌∙◌, Bool, true, false, not, ◌&&◌}
use Rattle.std.proofs.Common.{arith}
use Rattle.std.specs.Prelude.{ℤ, pos, neg_ℤ, ◌≤ℤ◌, ◌==◌, nat_lt, int_lt, if◌then◌else◌}
use Rattle.std.specs.Ordering.{int_eq}
use Rattle.std.proofs.lemmas.Bool.{cases_Bool, cond-true, cond-false, eq-eqb, ne_eqb, le-ltb}
use Rattle.std.proofs.lemmas.Bool.{true≢false}
use Rattle.std.proofs.lemmas.Bool.Decides.{Decides-int_eq}
use borrow.Author.Differences.{ints}
use Rattle.pm_turn.specs.declared.choice.Sums.{Sums}
use Rattle.pm_turn.specs.Turning.{flipped_if}
use Rattle.pm_turn.specs.Sums.{is_reversed}

-- Tests.
pub flip_past : (b c p : Bool) → flipped_if b (flipped_if c p) ≡ flipped_if c (flipped_if b p)
flip_past b c p = grind (arith, common_steps)

second_false : (a b c x y : Bool) → b ≡ false → (if a && b && c then x else y) ≡ y
second_false a b c x y h = grind (arith, common_steps)

first_false : (a b c x y : Bool) → a ≡ false → (if a && b && c then x else y) ≡ y
first_false true b c x y e = absurd (true≢false e)
first_false false b c x y e = refl

both_true : (a b c x y : Bool) → a ≡ true → b ≡ true
    → (if a && b && c then x else y) ≡ (if c then x else y)
both_true a b c x y e f = grind (arith, common_steps)

-- The choice by sums: no face with odd parity, a side without a mate, and neither.
pub stays_without_odd : (s : Sums) → s.odd ≡ 0 → s.odd_area ≡ 0 → is_reversed s ≡ false
stays_without_odd s none no_area = grind (arith, common_steps, eq-eqb, le-ltb, second_false)

pub by_area : (s : Sums) → s.bare ≢ 0 → is_reversed s ≡ nat_lt s.even_area s.odd_area
by_area s bare = first_false (s.bare == 0) (not (s.odd == 0)) (not (int_eq s.volume (pos 0)))
    (int_lt s.volume (pos 0)) (nat_lt s.even_area s.odd_area) (ne_eqb s.bare 0 bare)

abbrev pub IsTold : ℤ → Bool → Bool → Type 0
IsTold z y r = ((z ≡ pos 0) × (r ≡ y)) ⊎
    (((pos 0 ≤ℤ z) × (z ≢ pos 0) × (r ≡ false)) ⊎
    ((pos 0 ≤ℤ neg_ℤ z) × (neg_ℤ z ≢ pos 0) × (r ≡ true)))

negative : (z : ℤ) → int_lt z (pos 0) ≡ true → pos 0 ≤ℤ neg_ℤ z
negative z e = omega (arith, ints)

positive : (z : ℤ) → int_lt z (pos 0) ≡ false → pos 0 ≤ℤ z
positive z e = omega (arith, ints)

opposite_apart : (z : ℤ) → z ≢ pos 0 → neg_ℤ z ≢ pos 0
opposite_apart z ne is = ne (omega (arith, ints, is))

pub at_least_own : (z : ℤ) → z ≤ℤ z
at_least_own z = omega (arith, ints)

by_volume : (z : ℤ) (y r : Bool) → r ≡ (if not (int_eq z (pos 0)) then int_lt z (pos 0) else y)
    → IsTold z y r
by_volume z y r e =
    elim (cases_Bool (int_eq z (pos 0))) [
      | inl t ↦ inl ((Decides-int_eq z (pos 0)).0 t, e ∙ cond-false _ _ _ (ap not t))
      | inr f ↦
          grind (arith, common_steps, Decides-int_eq, cond-true, negative, opposite_apart, positive)
    ]

pub by_volumes : (s : Sums) → s.bare ≡ 0 → s.odd ≢ 0
    → IsTold s.volume (nat_lt s.even_area s.odd_area) (is_reversed s)
by_volumes s bare odd = grind (arith, common_steps, both_true, by_volume, eq-eqb, ne_eqb)
