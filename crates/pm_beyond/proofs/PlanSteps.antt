-- After its first move a plan is the rest of itself.
use Rattle.std.proofs.Common.{◌≡◌, ◌≢◌, ℕ, zero, suc, ◌<◌, Bool, true, false, not, List, [], ◌∷◌}
use Rattle.std.proofs.lemmas.Grind.{common_steps}
use Rattle.std.proofs.Common.{◌++◌, drop, take, ◌⊎◌, inl, inr, refl, sym, ap, ◌∙◌, subst, arith}
use Rattle.std.proofs.lemmas.Bool.{cases_Bool, cases_eq, and_left, and_right, not_from_true}
use Rattle.std.proofs.lemmas.Bool.{cond-true, cond-false, eq-eqb, ne_eqb}
use Rattle.pm_forest.specs.Forest.{Hierarchy, record_count}
use Rattle.pm_forest.specs.Fronts.{with, without}
use Rattle.pm_forest.proofs.OneStep.{with-same}
use Rattle.pm_beyond.specs.Plans.{Move, Split, Collapse, moved, moved_by, ascending, descending}
use Rattle.pm_beyond.specs.Plans.{less, plan}
use Rattle.pm_beyond.proofs.PlanLists.{ascending-zero, ascending-true, ascending-false}
use Rattle.pm_beyond.proofs.PlanLists.{descending-zero, descending-true, descending-false}
use Rattle.pm_beyond.proofs.PlanLists.{less-parts}

with-other : (T : ℕ → Bool) (k j : ℕ) → j ≢ k → with T k j ≡ T j
with-other T k j n = cond-false _ true (T j) (ne_eqb j k n)

pub without-same : (T : ℕ → Bool) (k : ℕ) → without T k k ≡ false
without-same T k = cond-true _ false (T k) (eq-eqb k k refl)

without-other : (T : ℕ → Bool) (k j : ℕ) → j ≢ k → without T k j ≡ T j
without-other T k j n = cond-false _ false (T j) (ne_eqb j k n)

-- Tests that are the same below n have the same moves.
module _ (make : ℕ → Move) (p q : ℕ → Bool) where
  pub ascending-same : (n : ℕ) → ((j : ℕ) → j < n → p j ≡ q j)
      → ascending make p n ≡ ascending make q n
  ascending-same zero same = ascending-zero make p ∙ sym (ascending-zero make q)
  ascending-same (suc n) same =
      grind (arith, common_steps, ascending-false, ascending-true, ascending-same n)

  pub descending-same : (n : ℕ) → ((j : ℕ) → j < n → p j ≡ q j)
      → descending make p n ≡ descending make q n
  descending-same zero same = descending-zero make p ∙ sym (descending-zero make q)
  descending-same (suc n) same =
      grind (arith, common_steps, descending-false, descending-true, descending-same n)

-- The number of the first move, and the moves without it.
record IsFirst (part : (ℕ → Bool) → ℕ → List Move) (make : ℕ → Move) (p : ℕ → Bool) (n : ℕ)
    (m : Move) (ms : List Move) : Type 0 where
  number : ℕ
  low : number < n
  passes : p number ≡ true
  move : m ≡ make number
  others : part (without p number) n ≡ ms

abbrev Begins : List Move → Type 0
Begins xs = (x : Move) × (ys : List Move) × (xs ≡ x ∷ ys)

list_cases : (xs : List Move) → (xs ≡ []) ⊎ Begins xs
list_cases [] = inl refl
list_cases (x ∷ xs) = inr (x, xs, refl)

abbrev tail : List Move → List Move
tail [] = []
tail (x ∷ xs) = xs

abbrev head : Move → List Move → Move
head d [] = d
head d (x ∷ xs) = x

nil_cons : {m : Move} {ms : List Move} → [] ≡ m ∷ ms → ⊥
nil_cons e = cc

module _ (make : ℕ → Move) (p : ℕ → Bool) where
  first_ascending : (n : ℕ) (m : Move) (ms : List Move) → ascending make p n ≡ m ∷ ms
      → IsFirst (ascending make) make p n m ms
  first_ascending zero m ms e = absurd (nil_cons (sym (ascending-zero make p) ∙ e))
  first_ascending (suc n) m ms e =
      elim (cases_Bool (p n)) [
        | inr t ↦
            grind (
              arith,
              common_steps,
              ascending-false,
              without-other,
              first_ascending n m ms (sym (ascending-false make p n t) ∙ e),
            )
        | inl t ↦
            let all : ascending make p n ++ make n ∷ [] ≡ m ∷ ms =
            sym (ascending-true make p n t) ∙ e in
            elim (list_cases (ascending make p n)) [
              | inl none ↦
                  grind (
                    arith,
                    common_steps,
                    ascending-false,
                    ascending-same,
                    without-other,
                    without-same,
                  )
              | inr (x, xs, is) ↦
                  grind (
                    arith,
                    common_steps,
                    ascending-true,
                    without-other,
                    first_ascending n x xs is,
                  )
            ]
      ]

  first_descending : (n : ℕ) (m : Move) (ms : List Move) → descending make p n ≡ m ∷ ms
      → IsFirst (descending make) make p n m ms
  first_descending zero m ms e = absurd (nil_cons (sym (descending-zero make p) ∙ e))
  first_descending (suc n) m ms e =
      elim (cases_Bool (p n)) [
        | inr t ↦
            grind (
              arith,
              common_steps,
              descending-false,
              without-other,
              first_descending n m ms (sym (descending-false make p n t) ∙ e),
            )
        | inl t ↦
            grind (
              arith,
              common_steps,
              descending-false,
              descending-same,
              descending-true,
              without-other,
              without-same,
            )
      ]

-- What a move does to what is still to do.
module _ (S G : ℕ → Bool) (k : ℕ) where
  split_less : (j : ℕ) → less G (with S k) j ≡ without (less G S) k j
  split_less j =
      elim (cases_eq j k) [
        | inl is ↦ subst (λ i. less G (with S k) i ≡ without (less G S) k i) (sym is)
            (and_right (G k) (not (with S k k)) (not_from_true (with S k k) (with-same S k))
            ∙ sym (without-same (less G S) k))
        | inr n ↦ (rw (with-other S k j n) (sym (without-other (less G S) k j n)))
      ]

  split_more : G k ≡ true → (j : ℕ) → less (with S k) G j ≡ less S G j
  split_more g j = grind (arith, common_steps, and_right, not_from_true, with-other)

  collapse_less : (j : ℕ) → less (without S k) G j ≡ without (less S G) k j
  collapse_less j = grind (arith, common_steps, and_left, without-other, without-same)

  collapse_more : G k ≡ false → (j : ℕ) → less G (without S k) j ≡ less G S j
  collapse_more g j = grind (arith, common_steps, and_left, without-other)

plan-splits : (h : Hierarchy) (S G : ℕ → Bool) (up : List Move)
    → ascending Split (less G S) (record_count h) ≡ up
    → plan h S G ≡ up ++ descending Collapse (less S G) (record_count h)
unfolding plan
plan-splits h S G up e = ap (λ xs. xs ++ descending Collapse (less S G) (record_count h)) e

-- The plan from the set after its first move is the rest.
pub plan-rest : (h : Hierarchy) (S G : ℕ → Bool) (m : Move) (ms : List Move) → plan h S G ≡ m ∷ ms
    → plan h (moved S m) G ≡ ms
plan-rest h S G m ms e =
    let n = record_count h in
    let down = descending Collapse (less S G) n in
    elim (list_cases (ascending Split (less G S) n)) [
      | inl none ↦
          let r = first_descending Collapse (less S G) n m ms (sym (plan-splits h S G [] none)
          ∙ e) in
          let k = r.number in
          let g = (less-parts S G k r.passes).1 in
          ap (λ x. plan h (moved S x) G) r.move
          ∙ plan-splits h (without S k) G []
          (ascending-same Split (less G (without S k)) (less G S) n
          (λ j l. collapse_more S G k g j) ∙ none)
          ∙ descending-same Collapse (less (without S k) G) (without (less S G) k) n
          (λ j l. collapse_less S G k j)
          ∙ r.others
      | inr (x, xs, is) ↦
          let both : x ∷ (xs ++ down) ≡ m ∷ ms = sym (plan-splits h S G (x ∷ xs) is) ∙ e in
          let r = first_ascending Split (less G S) n x xs is in
          let k = r.number in
          let g = (less-parts G S k r.passes).0 in
          ap (λ y. plan h (moved S y) G) (ap (head m) (sym both) ∙ r.move)
          ∙ plan-splits h (with S k) G xs
          (ascending-same Split (less G (with S k)) (without (less G S) k) n
          (λ j l. split_less S G k j) ∙ r.others)
          ∙ ap (λ ys. xs ++ ys)
          (descending-same Collapse (less (with S k) G) (less S G) n
          (λ j l. split_more S G k g j))
          ∙ ap tail both
    ]

rest_after : (h : Hierarchy) (S G : ℕ → Bool) (m : ℕ) (ms : List Move) → plan h S G ≡ ms
    → plan h (moved_by S (take m ms)) G ≡ drop m ms
rest_after h S G zero ms e = e
rest_after h S G (suc m) [] e = e
rest_after h S G (suc m) (x ∷ xs) e = rest_after h (moved S x) G m xs (plan-rest h S G x xs e)

pub plan-after : (h : Hierarchy) (S G : ℕ → Bool) (m : ℕ)
    → plan h (moved_by S (take m (plan h S G))) G ≡ drop m (plan h S G)
plan-after h S G m = rest_after h S G m (plan h S G) refl
