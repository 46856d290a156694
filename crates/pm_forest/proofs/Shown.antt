-- In a front the kept faces are the base faces and the faces of split records.
use Rattle.std.proofs.Common.{◌≡◌, ◌≢◌, ◌⊎◌, ℕ, ◌+◌, ◌*◌, ◌<◌, eqb, Bool, true, false, not, ◌&&◌}
use Rattle.std.proofs.lemmas.Grind.{common_steps}
use Rattle.std.proofs.Common.{Option, Some, None, inl, inr, refl, sym, ap, ◌∙◌, subst, arith}
use Rattle.std.proofs.lemmas.Bool.{eq-eqb, ne_eqb, cases_eq, cases_Bool, true≢false, and_left}
use Rattle.std.proofs.lemmas.Bool.{and_right}
use Rattle.std.proofs.lemmas.Option.{none-some, same_Some}
use Rattle.pm_base.specs.Sides.{face_of, next}
use Rattle.pm_base.proofs.Sides.{next_cases, next-next-next}
use Rattle.pm_forest.specs.Forest.{Hierarchy, record_count, s_of, Holds}
use Rattle.pm_forest.specs.Fronts.{IsFront, made_in, ancestor_after, ancestor_of, with, without}
use Rattle.pm_forest.specs.Faces.{face_count, revealed_by, record_of, from_leaf, to_leaf, inner_of}
use Rattle.pm_forest.specs.Faces.{IsForest}
use Rattle.pm_forest.specs.Kept.{is_kept, is_shown}
use Rattle.pm_forest.proofs.Nodes.{holds-s_from_t, holds-s_from_u}
use Rattle.pm_forest.proofs.Ancestors.{apart_later}
use Rattle.pm_forest.proofs.OneStep.{with-cases, with-from, without-parts, without-from}
use Rattle.pm_forest.proofs.Kept.{apart_children, apart_outside}
use Rattle.pm_forest.proofs.Sides.{inner-face, three_sides}
use Rattle.pm_forest.proofs.FaceNumbers.{record-lt}
use Rattle.pm_forest.proofs.Ends.{t_first, u_first, inner-lt, next-lt, inner_ends, third_outside}
use Rattle.pm_forest.proofs.Ends.{inner-joined}

pub shown_record : (h : Hierarchy) (T : ℕ → Bool) (e k : ℕ) → record_of h e ≡ Some k
    → is_shown h T e ≡ T k
unfolding is_shown
shown_record h T e k r = rw r

pub shown_base : (h : Hierarchy) (T : ℕ → Bool) (e : ℕ) → record_of h e ≡ None
    → is_shown h T e ≡ true
unfolding is_shown
shown_base h T e r = rw r

pub shown_same : (h : Hierarchy) (T : ℕ → Bool) (e g : ℕ) → face_of e ≡ face_of g
    → is_shown h T e ≡ is_shown h T g
unfolding is_shown
shown_same h T e g f = ap (λ x. made_in T (revealed_by h x)) f

hidden_at : (r : Option ℕ) (T : ℕ → Bool) → made_in T r ≡ false → (j : ℕ) × (r ≡ Some j)
    × (T j ≡ false)
hidden_at None T d = absurd (true≢false d)
hidden_at (Some j) T d = (j, refl, d)

shown_at : (r : Option ℕ) (T : ℕ → Bool) → made_in T r ≡ true
    → (r ≡ None) ⊎ ((j : ℕ) × (r ≡ Some j) × (T j ≡ true))
shown_at None T d = inl refl
shown_at (Some j) T d = inr (j, refl, d)

-- A face that isn't shown is a face of a record that isn't split, and a shown one is a base face or
-- a face of a split record.
pub hidden-parts : (h : Hierarchy) (T : ℕ → Bool) (e : ℕ) → is_shown h T e ≡ false
    → (j : ℕ) × (record_of h e ≡ Some j) × (T j ≡ false)
unfolding is_shown
hidden-parts h T e d = hidden_at (record_of h e) T d

pub shown-parts : (h : Hierarchy) (T : ℕ → Bool) (e : ℕ) → is_shown h T e ≡ true
    → (record_of h e ≡ None) ⊎ ((j : ℕ) × (record_of h e ≡ Some j) × (T j ≡ true))
unfolding is_shown
shown-parts h T e d = shown_at (record_of h e) T d

-- With record k split too its own faces are shown, and those that were.
pub shown_with : (h : Hierarchy) (T : ℕ → Bool) (k e : ℕ) → is_shown h T e ≡ true
    → is_shown h (with T k) e ≡ true
shown_with h T k e s = grind (arith, common_steps, shown-parts, shown_base, shown_record, with-from)

pub shown_with-parts : (h : Hierarchy) (T : ℕ → Bool) (k e : ℕ) → is_shown h (with T k) e ≡ true
    → (record_of h e ≡ Some k) ⊎ (is_shown h T e ≡ true)
shown_with-parts h T k e s =
    grind (arith, common_steps, shown-parts, shown_base, shown_record, with-cases)

-- With record k no longer split the faces of other records stay shown, and no others.
pub shown_without : (h : Hierarchy) (T : ℕ → Bool) (k e : ℕ) → record_of h e ≢ Some k
    → is_shown h T e ≡ true → is_shown h (without T k) e ≡ true
shown_without h T k e n s =
    grind (arith, common_steps, shown-parts, shown_base, shown_record, without-from)

pub shown_without-parts : (h : Hierarchy) (T : ℕ → Bool) (k e : ℕ)
    → is_shown h (without T k) e ≡ true → (record_of h e ≢ Some k) × (is_shown h T e ≡ true)
shown_without-parts h T k e s =
    elim (shown-parts h (without T k) e s) [
      | inl n ↦ (λ own. none-some k (sym n ∙ own), shown_base h T e n)
      | inr (j, r, t) ↦
          let p = without-parts T k j t in
          (λ own. p.0 (same_Some j k (sym r ∙ own)), shown_record h T e j r ∙ p.1)
    ]

module _ (h : Hierarchy) (shape : IsForest h) (T : ℕ → Bool) (front : IsFront h T) where
  -- The ends of a side of a shown face have two ancestors.
  pub shown-apart : (e : ℕ) → e < 3 * face_count h → is_shown h T e ≡ true
      → ancestor_of h T (from_leaf h e) ≢ ancestor_of h T (to_leaf h e)
  unfolding ancestor_after
  shown-apart e l s =
      let up : ℕ → ℕ = λ g. ancestor_of h T (from_leaf h g) in
      let a_lt = shape.faces.leaves e l in
      let b_lt = shape.faces.leaves (next e) (next-lt h shape e l) in
      elim (shown-parts h T e s) [
        | inl r ↦ apart_later h shape.forest T 0 (record_count h) (from_leaf h e) (to_leaf h e)
            (omega arith) a_lt b_lt (shape.faces.base e l r)
        | inr (k, r, t) ↦
            let i = inner_of h k (face_of e) in
            let k_lt = record-lt h e k l r in
            let i_lt = inner-lt h shape k e l in
            let f_lt = shape.faces.leaves i i_lt in
            let g_lt = shape.faces.leaves (next i) (next-lt h shape i i_lt) in
            let o_lt = shape.faces.leaves (next (next i))
            (next-lt h shape (next i) (next-lt h shape i i_lt)) in
            let outside = third_outside h shape k (face_of e) (omega arith) r in
            let ends = inner_ends h shape k (face_of e) (omega arith) r in
            let from_s : Holds h (s_of h k) (from_leaf h i) =
            grind (arith, common_steps, holds-s_from_t, holds-s_from_u, t_first, u_first) in
            let to_s : Holds h (s_of h k) (to_leaf h i) =
            grind (arith, common_steps, holds-s_from_t, holds-s_from_u, t_first, u_first) in
            elim (three_sides e i (sym (inner-face h k (face_of e)))) [
              | inl is ↦ grind (arith, common_steps, apart_children, t_first, u_first)
              | inr which ↦
                  elim which [
                    | inl is ↦ (λ z. apart_outside h shape.forest T front k k_lt t (to_leaf h i)
                        (from_leaf h (next (next i))) g_lt o_lt to_s outside (ap up (sym is) ∙ z
                        ∙ ap (λ g. up (next g)) is))
                    | inr is ↦ (λ z. apart_outside h shape.forest T front k k_lt t (from_leaf h i)
                        (from_leaf h (next (next i))) f_lt o_lt from_s outside
                        (ap up (sym (next-next-next i)) ∙ ap (λ g. up (next g)) (sym is) ∙ sym z
                        ∙ ap up is))
                  ]
            ]
      ]

  -- A face is kept exactly where it is a base face or its record is split.
  pub kept-shown : (f : ℕ) → f < face_count h → is_kept h T f ≡ is_shown h T (3 * f)
  unfolding is_kept
  kept-shown f l =
      let up : ℕ → ℕ = λ g. ancestor_of h T (from_leaf h g) in
      let n0 : next (3 * f) ≡ 3 * f + 1 = let c = next_cases (3 * f) in omega arith in
      let n1 : next (3 * f + 1) ≡ 3 * f + 2 = let c = next_cases (3 * f + 1) in omega arith in
      let n2 : next (3 * f + 2) ≡ 3 * f = let c = next_cases (3 * f + 2) in omega arith in
      elim (cases_Bool (is_shown h T (3 * f))) [
        | inl s ↦
            let s1 = shown_same h T (3 * f + 1) (3 * f) (omega arith) ∙ s in
            let s2 = shown_same h T (3 * f + 2) (3 * f) (omega arith) ∙ s in
            let a0 = shown-apart (3 * f) (omega arith) s in
            let a1 = shown-apart (3 * f + 1) (omega arith) s1 in
            let a2 = shown-apart (3 * f + 2) (omega arith) s2 in
            rw (
              ne_eqb (up (3 * f)) (up (3 * f + 1)) (λ z. a0 (z ∙ ap up (sym n0))),
              ne_eqb (up (3 * f + 1)) (up (3 * f + 2)) (λ z. a1 (z ∙ ap up (sym n1))),
              ne_eqb (up (3 * f + 2)) (up (3 * f)) (λ z. a2 (z ∙ ap up (sym n2))),
            ) (sym s)
        | inr s ↦
            let p = hidden-parts h T (3 * f) s in
            let face : face_of (3 * f) ≡ f = omega arith in
            let r : revealed_by h f ≡ Some p.0 = subst (λ g. revealed_by h g ≡ Some p.0) face p.1 in
            let i = inner_of h p.0 f in
            let g : face_of i ≡ f = inner-face h p.0 f in
            let j = inner-joined h shape T p.0 f l r p.2 in
            let x = not (eqb (up (3 * f)) (up (3 * f + 1))) in
            let y = not (eqb (up (3 * f + 1)) (up (3 * f + 2))) in
            let z = not (eqb (up (3 * f + 2)) (up (3 * f))) in
            let same : (a b : ℕ) → i ≡ a → next a ≡ b → not (eqb (up a) (up b)) ≡ false =
            λ a b q m. rw
            (eq-eqb (up a) (up b) (ap up (sym q) ∙ j ∙ ap (λ g. up (next g)) q ∙ ap up m)) in
            elim (cases_eq i (3 * f)) [
              | inl q ↦ and_left x (y && z) (same (3 * f) (3 * f + 1) q n0) ∙ sym s
              | inr q ↦ grind (arith, common_steps, and_left, and_right)
            ]
      ]
