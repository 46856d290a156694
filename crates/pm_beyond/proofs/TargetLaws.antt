-- The target is the least closed set that has each record whose node is wanted.
use Rattle.std.proofs.Common.{◌≡◌, ◌≢◌, ℕ, zero, suc, ◌-◌, ◌<◌, ◌≤◌, eqb, Bool, true, ◌&&◌, ◌||◌}
use Rattle.std.proofs.lemmas.Grind.{common_steps}
use Rattle.std.proofs.Common.{inl, inr, sym, ap, ◌∙◌, subst, arith}
use Rattle.std.proofs.lemmas.Bool.{eq-eqb, ne_eqb, cases_eq, false≢true, cond-true, cond-false}
use Rattle.std.proofs.lemmas.Bool.{and_parts, and_from, or_cases, or_left, or_right}
use Rattle.pm_forest.specs.Forest.{Hierarchy, record_count, s_of}
use Rattle.pm_forest.specs.Rules.{HasShape}
use Rattle.pm_beyond.specs.Moves.{IsClosed, needs}
use Rattle.pm_beyond.specs.Targets.{any_below, taken_after, target_of, IsTarget}
use Rattle.pm_beyond.proofs.Standing.{needs-older}
use Rattle.pm_beyond.proofs.Outer.{needs-true, needs-from}

pub any_below-parts : (p : ℕ → Bool) (n : ℕ) → any_below p n ≡ true
    → (i : ℕ) × (i < n) × (p i ≡ true)
any_below-parts p zero e = absurd (false≢true e)
any_below-parts p (suc n) e = grind (arith, common_steps, or_cases, any_below-parts p n)

pub any_below-from : (p : ℕ → Bool) (n i : ℕ) → i < n → p i ≡ true → any_below p n ≡ true
any_below-from p zero i l t = absurd (omega arith)
any_below-from p (suc n) i l t =
    grind (arith, common_steps, or_left, or_right, any_below-from p n i)

module _ (h : Hierarchy) (shape : HasShape h) (wanted : ℕ → Bool) where
  -- What is decided stays so.
  final : (d e j : ℕ) → d ≤ e → e ≤ record_count h → record_count h - d ≤ j → j < record_count h
      → taken_after h wanted e j ≡ taken_after h wanted d j
  unfolding taken_after
  final d zero j l b m n = let is : d ≡ 0 =
      omega arith in ap (λ i. taken_after h wanted i j) (sym is)
  final d (suc e) j l b m n =
      elim (cases_eq d (suc e)) [
        | inl is ↦ ap (λ i. taken_after h wanted i j) (sym is)
        | inr differs ↦ grind (arith, common_steps, cond-false, ne_eqb, final d e j)
      ]

  -- Record k is decided from the records above it.
  decided : (k : ℕ) → k < record_count h
      → target_of h wanted k
      ≡ (wanted (s_of h k) || any_below
      (λ i. taken_after h wanted (record_count h - suc k) i && needs h i k) (record_count h))
  unfolding taken_after
  decided k l =
      let d = record_count h - suc k in
      let here : record_count h - suc d ≡ k = omega arith in
      final (suc d) (record_count h) k (omega arith) (omega arith) (omega arith) l
      ∙ cond-true (eqb k (record_count h - suc d))
      (wanted (s_of h (record_count h - suc d)) || any_below
      (λ i. taken_after h wanted d i && needs h i (record_count h - suc d)) (record_count h))
      (taken_after h wanted d k) (eq-eqb k (record_count h - suc d) (sym here))
      ∙ ap (λ m. wanted (s_of h m) || any_below (λ i. taken_after h wanted d i && needs h i m)
      (record_count h)) here

  takes : (k : ℕ) → k < record_count h → wanted (s_of h k) ≡ true → target_of h wanted k ≡ true
  takes k l w = grind (arith, common_steps, decided, or_left)

  target-closed : IsClosed h (target_of h wanted)
  target-closed j k l t needed =
      let older = needs-older h shape j k l needed in
      let d = record_count h - suc k in
      let same = final d (record_count h) j (omega arith) (omega arith) (omega arith) l in
      let both = and_from (taken_after h wanted d j) (needs h j k) (sym same ∙ t)
      (needs-from h j k needed) in
      decided k (omega arith)
      ∙ or_right (wanted (s_of h k))
      (any_below (λ i. taken_after h wanted d i && needs h i k) (record_count h))
      (any_below-from (λ i. taken_after h wanted d i && needs h i k) (record_count h) j l both)

  least_after : (T : ℕ → Bool) → IsClosed h T
      → ((k : ℕ) → k < record_count h → wanted (s_of h k) ≡ true → T k ≡ true) → (d j : ℕ)
      → d ≤ record_count h → j < record_count h → taken_after h wanted d j ≡ true → T j ≡ true
  unfolding taken_after
  least_after T closed has zero j m l t = absurd (false≢true t)
  least_after T closed has (suc d) j m l t =
      let k = record_count h - suc d in
      let x = wanted (s_of h k) || any_below (λ i. taken_after h wanted d i && needs h i k)
      (record_count h) in
      elim (cases_eq j k) [
        | inl is ↦
            let u = sym (cond-true (eqb j k) x (taken_after h wanted d j) (eq-eqb j k is)) ∙ t in
            subst (λ i. T i ≡ true) (sym is)
            (elim (or_cases (wanted (s_of h k))
            (any_below (λ i. taken_after h wanted d i && needs h i k) (record_count h)) u) [
              | inl w ↦ has k (omega arith) w
              | inr a ↦
                  let (i, i_lt, b) = any_below-parts (λ i. taken_after h wanted d i && needs h i k)
                  (record_count h) a in
                  let p = and_parts (taken_after h wanted d i) (needs h i k) b in
                  closed i k i_lt (least_after T closed has d i (omega arith) i_lt p.0)
                  (needs-true h i k i_lt p.1)
            ])
        | inr differs ↦
            least_after T closed has d j (omega arith) l
            (sym (cond-false (eqb j k) x (taken_after h wanted d j) (ne_eqb j k differs)) ∙ t)
      ]

  pub target-least : IsTarget h wanted (target_of h wanted)
  target-least = record {
    closed = target-closed;
    takes = takes;
    least = λ T closed has k l t. least_after T closed has (record_count h) k (omega arith) l t;
  }
