-- A walk by a step that is one to one among the numbers below n, from a number to which no step
-- leads, ends within n steps.
use Rattle.std.proofs.Common.{◌≡◌, ℕ, zero, suc, ◌+◌, ◌-◌, ◌*◌, ◌<◌, ◌≤◌, Bool, false, Option}
use Rattle.std.proofs.lemmas.Grind.{common_steps}
use Rattle.std.proofs.Common.{Some, None, inl, inr, refl, sym, ap, ◌∙◌, arith}
use Rattle.std.proofs.lemmas.Bool.{cond-true, cond-false}
use Rattle.std.proofs.lemmas.Option.{none-some}
use Rattle.pm_base.proofs.Search.{option_cases}
use Rattle.pm_base.proofs.Walks.{after_steps, after_steps-zero, IsTrail, trail-good, trail-lt}
use Rattle.pm_base.proofs.Walks.{trail-ends}
use Rattle.pm_forest.specs.Forest.{Hierarchy}
use Rattle.pm_forest.specs.Faces.{face_count}
use Rattle.pm_forest.specs.Kept.{is_shown}
use Rattle.pm_beyond.specs.Walks.{leaf_twin, across, way_out, go_on, walk}
use Rattle.pm_beyond.proofs.Twins.{twin-is}
use Rattle.pm_beyond.proofs.Across.{across-lt}

pub walk_zero : (f : ℕ → Option ℕ) (a : ℕ) → walk f 0 a ≡ a
unfolding walk
walk_zero f a = refl

pub walk-none : (f : ℕ → Option ℕ) (m a : ℕ) → f a ≡ None → walk f (suc m) a ≡ a
unfolding walk
walk-none f m a e = ap (λ r. go_on r a (walk f m)) e

pub walk-some : (f : ℕ → Option ℕ) (m a o : ℕ) → f a ≡ Some o → walk f (suc m) a ≡ walk f m o
unfolding walk
walk-some f m a o e = ap (λ r. go_on r a (walk f m)) e

pub walk_stays : (f : ℕ → Option ℕ) (m a : ℕ) → f a ≡ None → walk f m a ≡ a
walk_stays f zero a e = walk_zero f a
walk_stays f (suc m) a e = walk-none f m a e

-- The same where a loop counts up to n: after t turns there are n - t steps to go.
pub walk_counts : (f : ℕ → Option ℕ) (n t a o : ℕ) → t < n → f a ≡ Some o
    → walk f (n - t) a ≡ walk f (n - (t + 1)) o
walk_counts f n t a o l e = let m : n - t ≡ suc (n - (t + 1)) =
    omega arith in rw m (walk-some f (n - (t + 1)) a o e)

pub walk_over : (f : ℕ → Option ℕ) (n t a : ℕ) → n ≤ t → walk f (n - t) a ≡ a
walk_over f n t a l = let m : n - t ≡ 0 = omega arith in rw m (walk_zero f a)

-- A walk along a trail to its end.
pub walk-along : (f : ℕ → Option ℕ) (a l : ℕ) → IsTrail f a l → f (after_steps f a l) ≡ None
    → (m i : ℕ) → i ≤ l → l ≤ i + m → walk f m (after_steps f a i) ≡ after_steps f a l
walk-along f a l t e zero i low high = let is : i ≡ l =
    omega arith in walk_zero f (after_steps f a i) ∙ ap (after_steps f a) is
walk-along f a l t e (suc m) i low high =
    grind (arith, common_steps, after_steps, walk-none, walk-some, walk-along f a l t e m (suc i))

module _ (f : ℕ → Option ℕ) (n a : ℕ) (start : a < n) (keeps : (p o : ℕ) → p < n → f p ≡ Some o
    → o < n) (injective : (p q o : ℕ) → p < n → q < n → f p ≡ Some o → f q ≡ Some o
    → p ≡ q) (fresh : (p : ℕ) → p < n → f p ≡ Some a → ⊥) where
  pub walk_ends : f (walk f n a) ≡ None
  walk_ends =
      let Below : ℕ → Type 0 = λ p. p < n in
      let (l, t, ends) = trail-ends f Below keeps injective a start n (λ p b. b) in
      let short = trail-lt f Below keeps injective a start n (λ p b. b) l t in
      elim ends [
        | inl stops ↦
            ap f (ap (walk f n) (sym (after_steps-zero f a))
            ∙ walk-along f a l t stops n 0 (omega arith) (omega arith)) ∙ stops
        | inr returns ↦
            absurd (fresh (after_steps f a l)
            (trail-good f Below keeps injective a start l t l (omega arith)) returns)
      ]

-- A step goes over a twin whose face isn't shown, and across that face,
pub way_out_parts : (h : Hierarchy) (T : ℕ → Bool) (a o : ℕ) → way_out h T a ≡ Some o
    → (c : ℕ) × (leaf_twin h a ≡ Some c) × (is_shown h T c ≡ false) × (across h c ≡ Some o)
unfolding way_out
way_out_parts h T a o e =
    grind (arith, common_steps, cond-false, cond-true, none-some, option_cases)

-- to a side of the mesh.
pub way_out_lt : (h : Hierarchy) (T : ℕ → Bool) (a o : ℕ) → way_out h T a ≡ Some o
    → o < 3 * face_count h
way_out_lt h T a o e = let q =
    way_out_parts h T a o e in across-lt h q.0 o (twin-is h a q.0 q.1).2 q.3
