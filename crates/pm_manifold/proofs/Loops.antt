-- Loops of border sides: each comes back to its start, and the least side of each begins it.
use Rattle.std.proofs.Common.{◌≡◌, ℕ, zero, suc, ◌+◌, ◌-◌, ◌*◌, ◌<◌, ◌≤◌, Bool, true, false}
use Rattle.std.proofs.lemmas.Grind.{common_steps}
use Rattle.std.proofs.Common.{◌&&◌, Option, Some, ◌↔◌, ◌⊎◌, List, inl, inr, refl, sym, ap, ◌∙◌}
use Rattle.std.proofs.Common.{subst, arith}
use Rattle.std.proofs.lemmas.Bool.{cases_lt, cases_eq, both_ways, and_parts, and_from, and_left}
use Rattle.std.proofs.lemmas.Bool.{false_from_ne_true, leb-true, le-leb}
use Rattle.std.proofs.lemmas.Option.{none-some, same_Some}
use Rattle.pm_base.proofs.Walks.{after_steps, after_steps-zero, after_steps-suc, trail-ends}
use Rattle.pm_base.proofs.Walks.{trail-lt}
use Rattle.pm_forest.specs.Forest.{Hierarchy}
use Rattle.pm_forest.specs.Faces.{face_count}
use Rattle.pm_beyond.specs.Valid.{IsValid}
use Rattle.pm_beyond.specs.Moves.{IsClosed}
use Rattle.pm_beyond.proofs.Standing.{closed-front}
use Rattle.pm_manifold.specs.Measure.{is_border_side, next_border, border_after, is_least_within}
use Rattle.pm_manifold.specs.Measure.{begins_loop}
use Rattle.pm_manifold.specs.Tracing.{IsBorderSideIn, IsInLoop, AreMarkedBelow}
use Rattle.pm_base.specs.Counts.{set_of}
use Rattle.pm_manifold.proofs.KeptSides.{next_is_border}
use Rattle.pm_manifold.proofs.NextBorders.{one_before}

pub after-zero : (h : Hierarchy) (T : ℕ → Bool) (e : ℕ) → border_after h T e 0 ≡ e
unfolding border_after
after-zero h T e = refl

pub after-suc : (h : Hierarchy) (T : ℕ → Bool) (e n : ℕ)
    → border_after h T e (suc n) ≡ next_border h T (border_after h T e n)
unfolding border_after
after-suc h T e n = refl

pub after-more : (h : Hierarchy) (T : ℕ → Bool) (e n : ℕ)
    → border_after h T e (n + 1) ≡ next_border h T (border_after h T e n)
after-more h T e n = let m : n + 1 ≡ suc n =
    omega arith in ap (border_after h T e) m ∙ after-suc h T e n

after-add : (h : Hierarchy) (T : ℕ → Bool) (e m n : ℕ) → border_after h T (border_after h T e m) n
    ≡ border_after h T e (m + n)
after-add h T e m zero = let z : m ≡ m + zero =
    omega arith in after-zero h T (border_after h T e m) ∙ ap (border_after h T e) z
after-add h T e m (suc n) =
    let z : suc (m + n) ≡ m + suc n = omega arith in
    after-suc h T (border_after h T e m) n ∙ ap (next_border h T) (after-add h T e m n)
    ∙ sym (after-suc h T e (m + n)) ∙ ap (border_after h T e) z

-- Where a walk is back after p steps, it never comes anywhere else.
pub periodic : (h : Hierarchy) (T : ℕ → Bool) (e p : ℕ) → 1 ≤ p → border_after h T e p ≡ e → (n : ℕ)
    → (i : ℕ) × (i < p) × (border_after h T e n ≡ border_after h T e i)
periodic h T e p some is zero = (0, some, refl)
periodic h T e p some is (suc n) =
    let (i, l, same) = periodic h T e p some is n in
    let step = after-suc h T e n ∙ ap (next_border h T) same ∙ sym (after-suc h T e i) in
    elim (cases_eq (suc i) p) [
      | inl last ↦ (0, some, step ∙ ap (border_after h T e) last ∙ is ∙ sym (after-zero h T e))
      | inr other ↦ (suc i, omega arith, step)
    ]

least-parts : (h : Hierarchy) (T : ℕ → Bool) (e n : ℕ) → is_least_within h T e n ≡ true → (i : ℕ)
    → i < n → e ≤ border_after h T e i
least-parts h T e zero t i l = absurd (omega arith)
least-parts h T e (suc n) t i l =
    grind (arith, common_steps, and_parts, leb-true, least-parts h T e n)

least-from : (h : Hierarchy) (T : ℕ → Bool) (e n : ℕ) → ((i : ℕ) → i < n → e ≤ border_after h T e i)
    → is_least_within h T e n ≡ true
least-from h T e zero all = refl
least-from h T e (suc n) all = grind (arith, common_steps, and_from, le-leb, least-from h T e n)

module _ (h : Hierarchy) (valid : IsValid h) (T : ℕ → Bool) (closed : IsClosed h T) where
  abbrev sides : ℕ
  sides = 3 * face_count h

  pub after_border : (e n : ℕ) → IsBorderSideIn h T e → IsBorderSideIn h T (border_after h T e n)
  after_border e zero b = subst (IsBorderSideIn h T) (sym (after-zero h T e)) b
  after_border e (suc n) b =
      subst (IsBorderSideIn h T) (sym (after-suc h T e n))
      (next_is_border h valid T closed (border_after h T e n) (after_border e n b))

  -- Each loop comes back.
  abbrev step : ℕ → Option ℕ
  step x = Some (next_border h T x)

  step-one : (p q o : ℕ) → IsBorderSideIn h T p → IsBorderSideIn h T q → step p ≡ Some o
      → step q ≡ Some o → p ≡ q
  step-one p q o bp bq a b =
      one_before h valid T (closed-front h T closed) p q bp.low bq.low bp.border bq.border
      (same_Some (next_border h T p) o a ∙ sym (same_Some (next_border h T q) o b))

  step-keeps : (p o : ℕ) → IsBorderSideIn h T p → step p ≡ Some o → IsBorderSideIn h T o
  step-keeps p o b is =
      subst (IsBorderSideIn h T) (same_Some (next_border h T p) o is)
      (next_is_border h valid T closed p b)

  steps-are : (e n : ℕ) → after_steps step e n ≡ border_after h T e n
  steps-are e zero = after_steps-zero step e ∙ sym (after-zero h T e)
  steps-are e (suc n) =
      after_steps-suc step e n (next_border h T (after_steps step e n)) refl
      ∙ ap (next_border h T) (steps-are e n) ∙ sym (after-suc h T e n)

  pub comes_back : (e : ℕ) → IsBorderSideIn h T e → (p : ℕ) × (1 ≤ p) × (p ≤ 3 * face_count h)
      × (border_after h T e p ≡ e)
  comes_back e b =
      let (l, trail, end) = trail-ends step (IsBorderSideIn h T) step-keeps step-one e b sides
      (λ p q. q.low) in
      let short = trail-lt step (IsBorderSideIn h T) step-keeps step-one e b sides (λ p q. q.low) l
      trail in
      elim end [
        | inl stops ↦ absurd (none-some (next_border h T (after_steps step e l)) (sym stops))
        | inr returns ↦ (
          suc l,
          omega arith,
          omega arith,
          after-suc h T e l
              ∙ ap (next_border h T) (sym (steps-are e l))
              ∙ same_Some (next_border h T (after_steps step e l)) e returns,
        )
      ]

  pub joins : (e x y : ℕ) → IsInLoop h T e x → IsInLoop h T x y → IsInLoop h T e y
  joins e x y (m, a) (n, b) =
      (m + n, sym (after-add h T e m n) ∙ ap (λ i. border_after h T i n) a ∙ b)

  pub turns : (e x : ℕ) → IsBorderSideIn h T e → IsInLoop h T e x → IsInLoop h T x e
  turns e x b (n, is) =
      let (p, some, low, back) = comes_back e b in
      let (i, l, same) = periodic h T e p some back n in
      let z : i + (p - i) ≡ p = omega arith in (
        p - i,
        ap (λ j. border_after h T j (p - i)) (sym is ∙ same) ∙ after-add h T e i (p - i)
            ∙ ap (border_after h T e) z ∙ back,
      )

  pub loop_border : (e x : ℕ) → IsBorderSideIn h T e → IsInLoop h T e x → IsBorderSideIn h T x
  loop_border e x b (n, is) = subst (IsBorderSideIn h T) is (after_border e n b)

  -- The least side of a loop is that which is in no lesser side's loop.
  pub begins : (e : ℕ) → IsBorderSideIn h T e
      → ((g : ℕ) → g < e → IsBorderSideIn h T g → IsInLoop h T g e → ⊥) → begins_loop h T e ≡ true
  unfolding begins_loop
  begins e b none =
      and_from (is_border_side h T e) (is_least_within h T e (3 * face_count h)) b.border
      (least-from h T e (3 * face_count h) (λ i l.
      elim (cases_lt (border_after h T e i) e) [
        | inr fine ↦ fine
        | inl less ↦
            absurd (none (border_after h T e i) less (after_border e i b)
            (turns e (border_after h T e i) b (i, refl)))
      ]))

  pub begins_not : (e g : ℕ) → g < e → IsBorderSideIn h T g → IsInLoop h T g e
      → begins_loop h T e ≡ false
  unfolding begins_loop
  begins_not e g less bg loop =
      false_from_ne_true (is_border_side h T e && is_least_within h T e (3 * face_count h)) (λ t.
      let p = and_parts (is_border_side h T e) (is_least_within h T e (3 * face_count h)) t in
      let be = loop_border g e bg loop in
      let (n, is) = turns g e bg loop in
      let (q, some, low, back) = comes_back e be in
      let (i, l, same) = periodic h T e q some back n in
      let least = least-parts h T e (3 * face_count h) p.1 i (omega arith) in
      let at : border_after h T e i ≡ g = sym same ∙ is in
      omega arith)

  pub begins_no_border : (e : ℕ) → is_border_side h T e ≡ false → begins_loop h T e ≡ false
  unfolding begins_loop
  begins_no_border e off =
      and_left (is_border_side h T e) (is_least_within h T e (3 * face_count h)) off

  -- How marks go on: past a side that is no border side, one whose loop is marked, or one whose
  -- loop is marked now.
  pub marks_pass : (n : ℕ) (marks : List Bool) → is_border_side h T n ≡ false
      → AreMarkedBelow h T n marks → AreMarkedBelow h T (n + 1) marks
  marks_pass n marks off are i = grind (arith, common_steps)

  pub marks_same : (n : ℕ) (marks : List Bool) → set_of marks n ≡ true → AreMarkedBelow h T n marks
      → AreMarkedBelow h T (n + 1) marks
  marks_same n marks there are i = (
    λ t. let (g, l, b, loop) = (are i).0 t in (g, omega arith, b, loop),
    λ (g, l, b, loop). elim (cases_eq g n) [
      | inl is ↦ (let (k, kl, kb, kloop) =
          (are n).0 there in
          (are i).1 (k, kl, kb, joins k n i kloop (subst (λ j. IsInLoop h T j i) is loop)))
      | inr ne ↦ (are i).1 (g, omega arith, b, loop)
    ],
  )

  pub marks_more : (n : ℕ) (old new : List Bool) → IsBorderSideIn h T n
      → ((i : ℕ) → (set_of new i ≡ true) ↔ ((set_of old i ≡ true) ⊎ IsInLoop h T n i))
      → AreMarkedBelow h T n old → AreMarkedBelow h T (n + 1) new
  marks_more n old new bn marked are i = (
    λ t. elim ((marked i).0 t) [
      | inl o ↦ (let (g, l, b, loop) = (are i).0 o in (g, omega arith, b, loop))
      | inr loop ↦ (n, omega arith, bn, loop)
    ],
    λ (g, l, b, loop). (marked i).1 (elim (cases_eq g n) [
      | inl is ↦ inr (subst (λ j. IsInLoop h T j i) is loop)
      | inr ne ↦ inl ((are i).1 (g, omega arith, b, loop))
    ]),
  )

  pub begins_unmarked : (n : ℕ) (marks : List Bool) → IsBorderSideIn h T n → set_of marks n ≡ false
      → AreMarkedBelow h T n marks → begins_loop h T n ≡ true
  begins_unmarked n marks b off are =
      begins n b (λ g l bg loop. both_ways (set_of marks n) off ((are n).1 (g, l, bg, loop)))

  pub begins_marked : (n : ℕ) (marks : List Bool) → set_of marks n ≡ true
      → AreMarkedBelow h T n marks → begins_loop h T n ≡ false
  begins_marked n marks there are = let (g, l, b, loop) = (are n).0 there in begins_not n g l b loop
