-- Searches and decisions over the numbers below a bound.
use Rattle.std.proofs.Common.{◌≡◌, ℕ, zero, suc, ◌<◌, Bool, true, false, Option, Some, None}
use Rattle.std.proofs.lemmas.Grind.{common_steps}
use Rattle.std.proofs.Common.{◌⊎◌, inl, inr, refl, sym, arith}
use Rattle.std.specs.Option.{is_some, is_none}
use Rattle.std.proofs.lemmas.Bool.{false≢true, cases_Bool, cond-true}
use Rattle.std.proofs.lemmas.Bool.{cond-false}
use Rattle.std.proofs.lemmas.Option.{none-some, same_Some}
use Rattle.pm_base.specs.Sides.{find_below}

pub find_below-some : (p : ℕ → Bool) (n g : ℕ) → find_below p n ≡ Some g → (p g ≡ true) × (g < n)
find_below-some p zero g e = absurd (none-some g e)
find_below-some p (suc n) g e =
    grind (arith, common_steps, cond-false, cond-true, same_Some, find_below-some p n g)

pub find_below-has : (p : ℕ → Bool) (n g : ℕ) → g < n → p g ≡ true
    → (k : ℕ) × (find_below p n ≡ Some k)
find_below-has p zero g l e = absurd (omega arith)
find_below-has p (suc n) g l e =
    elim (cases_Bool (p n)) [
      | inl a ↦ (n, cond-true _ _ _ a)
      | inr a ↦ grind (arith, common_steps, cond-false, find_below-has p n g)
    ]

pub option_cases : (r : Option ℕ) → (r ≡ None) ⊎ ((k : ℕ) × (r ≡ Some k))
option_cases None = inl refl
option_cases (Some k) = inr (k, refl)

pub none_from : (r : Option ℕ) → is_none r ≡ true → r ≡ None
none_from None t = refl
none_from (Some k) t = absurd (false≢true t)

pub not_some : {A : Type 0} (r : Option A) → is_some r ≡ false → r ≡ None
not_some None t = refl
not_some (Some k) t = absurd (false≢true (sym t))

pub some_from : {A : Type 0} (r : Option A) → is_some r ≡ true → (k : A) × (r ≡ Some k)
some_from None t = absurd (false≢true t)
some_from (Some k) t = (k, refl)

abbrev pub Decided : Type 0 → Type 0
Decided P = P ⊎ (P → ⊥)

pub search_below : (P : ℕ → Type 0) → ((i : ℕ) → Decided (P i)) → (n : ℕ)
    → ((i : ℕ) × (i < n) × P i) ⊎ ((i : ℕ) → i < n → P i → ⊥)
search_below P decide zero = inr (λ i l h. absurd (omega arith))
search_below P decide (suc n) =
    elim (decide n) [
      | inl h ↦ inl (n, omega arith, h)
      | inr never ↦ grind (arith, common_steps, search_below P decide n)
    ]
