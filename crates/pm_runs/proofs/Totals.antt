-- Sums over the numbers below a bound.
use Rattle.std.proofs.Common.{◌≡◌, ◌≢◌, ℕ, zero, suc, ◌+◌, ◌<◌, ◌≤◌, eqb, cond, inl, inr, refl, sym}
use Rattle.std.proofs.lemmas.Grind.{common_steps}
use Rattle.std.proofs.Common.{ap, ◌∙◌, arith}
use Rattle.std.proofs.lemmas.Bool.{cases_eq, cond-true, cond-false, eq-eqb, ne_eqb}
use Rattle.pm_base.specs.Counts.{one_if}
use Rattle.pm_runs.specs.Counts.{sum_below}

pub sum_same : (f g : ℕ → ℕ) (n : ℕ) → ((i : ℕ) → i < n → g i ≡ f i) → sum_below g n ≡ sum_below f n
sum_same f g zero each = refl
sum_same f g (suc n) each = let a = each n (omega arith) in let b =
    sum_same f g n (λ i l. each i (omega arith)) in omega arith

pub sum_add : (f g : ℕ → ℕ) (n : ℕ) → sum_below (λ i. f i + g i) n ≡ sum_below f n + sum_below g n
sum_add f g zero = refl
sum_add f g (suc n) = let a = sum_add f g n in omega arith

pub sum_le : (f g : ℕ → ℕ) (n : ℕ) → ((i : ℕ) → i < n → f i ≤ g i) → sum_below f n ≤ sum_below g n
sum_le f g zero each = omega arith
sum_le f g (suc n) each = let a = each n (omega arith) in
    let b = sum_le f g n (λ i l. each i (omega arith)) in omega arith

-- One term goes.
pub sum_one : (f g : ℕ → ℕ) (n t : ℕ) → t < n → g t ≡ 0 → ((i : ℕ) → i < n → i ≢ t → g i ≡ f i)
    → sum_below g n + f t ≡ sum_below f n
sum_one f g zero t l none each = absurd (omega arith)
sum_one f g (suc n) t l none each = grind (arith, common_steps, sum_same, sum_one f g n t)

-- Two terms go.
pub sum_two : (f g : ℕ → ℕ) (n t u : ℕ) → t < n → u < n → t ≢ u → g t ≡ 0 → g u ≡ 0
    → ((i : ℕ) → i < n → i ≢ t → i ≢ u → g i ≡ f i) → sum_below g n + (f t + f u) ≡ sum_below f n
sum_two f g n t u lt lu ne zt zu each =
    let h : ℕ → ℕ = λ i. cond (eqb i u) (f u) (g i) in
    let at_u : h u ≡ f u = cond-true _ _ _ (eq-eqb u u refl) in
    let off_u : (i : ℕ) → i ≢ u → h i ≡ g i = λ i n. cond-false _ _ _ (ne_eqb i u n) in
    let one = sum_one h g n u lu zu (λ i l n. sym (off_u i n)) in
    let two = sum_one f h n t lt (off_u t ne ∙ zt)
    (λ i l n. elim (cases_eq i u) [
      | inl is ↦ ap h is ∙ at_u ∙ ap f (sym is)
      | inr o ↦ off_u i o
          ∙ each i l n o
    ]) in
    omega arith

-- Two terms are no more than all.
pub two_within : (f : ℕ → ℕ) (n t u : ℕ) → t < n → u < n → t ≢ u → f t + f u ≤ sum_below f n
two_within f n t u lt lu ne =
    let g : ℕ → ℕ = λ i. cond (eqb i t) 0 (cond (eqb i u) 0 (f i)) in
    let at_t : g t ≡ 0 = cond-true _ _ _ (eq-eqb t t refl) in
    let at_u : g u ≡ 0 =
    cond-false _ _ _ (ne_eqb u t (λ z. ne (sym z))) ∙ cond-true _ _ _ (eq-eqb u u refl) in
    let rest = sum_two f g n t u lt lu ne at_t at_u (λ i l a b. cond-false _ _ _ (ne_eqb i t a)
    ∙ cond-false _ _ _ (ne_eqb i u b)) in
    omega arith

sum_nothing : (n : ℕ) → sum_below (λ i. 0) n ≡ 0
sum_nothing zero = refl
sum_nothing (suc n) = let rest = sum_nothing n in omega arith

-- One number is met once at most.
pub sum_met : (a n : ℕ) → sum_below (λ i. one_if (eqb a i)) n ≤ 1
sum_met a zero = omega arith
sum_met a (suc n) =
    grind (
      arith,
      common_steps,
      sum_same,
      eq-eqb a n,
      ne_eqb a,
      ne_eqb a n,
      sum_nothing n,
      sum_met a n,
    )
