-- Walks by a step that is one to one, among finitely many numbers: each comes to an end or back to
-- its start.
use Rattle.std.proofs.Common.{◌≡◌, ◌≢◌, ℕ, zero, suc, ◌+◌, ◌<◌, ◌≤◌, Option, Some, None, ◌⊎◌, inl}
use Rattle.std.proofs.lemmas.Grind.{common_steps}
use Rattle.std.proofs.Common.{inr, refl, sym, ap, ◌∙◌, subst, arith}
use Rattle.std.specs.Option.{unwrap_or}
use Rattle.std.proofs.lemmas.Bool.{cases_eq}
use Rattle.pm_base.proofs.Search.{option_cases}
use Rattle.pm_base.proofs.Counts.{pigeons}

-- Where i steps by f lead from a; where there is no step it stays.
unfoldable pub after_steps : (ℕ → Option ℕ) → ℕ → ℕ → ℕ
after_steps f a zero = a
after_steps f a (suc i) = unwrap_or (f (after_steps f a i)) (after_steps f a i)

-- k steps by f from a, to k + 1 different numbers.
pub record IsTrail (f : ℕ → Option ℕ) (a k : ℕ) : Type 0 where
  pub steps : (i : ℕ) → i < k → f (after_steps f a i) ≡ Some (after_steps f a (suc i))
  pub distinct : (i j : ℕ) → i < j → j < suc k → after_steps f a i ≢ after_steps f a j

-- After k steps there is no next, or it is the start.
abbrev pub Stops : (ℕ → Option ℕ) → ℕ → ℕ → Type 0
Stops f a k = f (after_steps f a k) ≡ None

abbrev pub Returns : (ℕ → Option ℕ) → ℕ → ℕ → Type 0
Returns f a k = f (after_steps f a k) ≡ Some a

pub after_steps-zero : (f : ℕ → Option ℕ) (a : ℕ) → after_steps f a 0 ≡ a
unfolding after_steps
after_steps-zero f a = refl

pub after_steps-suc : (f : ℕ → Option ℕ) (a i o : ℕ) → f (after_steps f a i) ≡ Some o
    → after_steps f a (suc i) ≡ o
unfolding after_steps
after_steps-suc f a i o e = ap (λ r. unwrap_or r (after_steps f a i)) e

pub trail-zero : (f : ℕ → Option ℕ) (a : ℕ) → IsTrail f a 0
trail-zero f a =
    record { steps = λ i l. absurd (omega arith); distinct = λ i j l g. absurd (omega arith) }

-- Good numbers are those among which f is one to one; a step from one leads to one.
module _ (f : ℕ → Option ℕ) (Good : ℕ → Type 0) (keeps : (p o : ℕ) → Good p → f p ≡ Some o
    → Good o) (injective : (p q o : ℕ) → Good p → Good q → f p ≡ Some o → f q ≡ Some o
    → p ≡ q) (a : ℕ) (start : Good a) where
  pub trail-good : (k : ℕ) → IsTrail f a k → (i : ℕ) → i ≤ k → Good (after_steps f a i)
  trail-good k t zero l = subst Good (sym (after_steps-zero f a)) start
  trail-good k t (suc i) l =
      keeps (after_steps f a i) (after_steps f a (suc i)) (trail-good k t i (omega arith))
      (t.steps i (omega arith))

  -- A step that doesn't lead back to the start leads to a number that wasn't met.
  new_number : (k : ℕ) → IsTrail f a k → (o : ℕ) → f (after_steps f a k) ≡ Some o → o ≢ a → (i : ℕ)
      → i ≤ k → after_steps f a i ≢ o
  new_number k t o e ne zero l is = ne (sym is ∙ after_steps-zero f a)
  new_number k t o e ne (suc i) l is = grind (arith, common_steps, trail-good)

  pub trail-suc : (k : ℕ) → IsTrail f a k → (o : ℕ) → f (after_steps f a k) ≡ Some o → o ≢ a
      → IsTrail f a (suc k)
  trail-suc k t o e ne =
      grind (arith, common_steps, after_steps-suc f a k o e, new_number k t o e ne)

  module _ (n : ℕ) (bound : (p : ℕ) → Good p → p < n) where
    pub trail-lt : (k : ℕ) → IsTrail f a k → k < n
    trail-lt k t =
        grind (arith, common_steps, pigeons (after_steps f a) (suc k) n t.distinct, trail-good k t)

    trail-on : (fuel k : ℕ) → IsTrail f a k → k + fuel ≡ n → (l : ℕ) × IsTrail f a l
        × (Stops f a l ⊎ Returns f a l)
    trail-on zero k t e = let b = trail-lt k t in absurd (omega arith)
    trail-on (suc fuel) k t e =
        elim (option_cases (f (after_steps f a k))) [
          | inl none ↦ (k, t, inl none)
          | inr (o, some) ↦
              elim (cases_eq o a) [
                | inl is ↦ (k, t, inr (some ∙ ap Some is))
                | inr ne ↦ trail-on fuel (suc k) (trail-suc k t o some ne) (omega arith)
              ]
        ]

    pub trail-ends : (l : ℕ) × IsTrail f a l × (Stops f a l ⊎ Returns f a l)
    trail-ends = trail-on n 0 (trail-zero f a) (omega arith)
