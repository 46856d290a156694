-- Face numbers: the faces of record k have the numbers from `first_face h k` to just before
-- `first_face h (suc k)`.
use Rattle.std.proofs.Common.{true, ◌⊎◌, ◌≡◌, ℕ, zero, suc, ◌+◌, ◌*◌, ◌<◌, ◌≤◌, leb, Some, is_some}
use Rattle.std.proofs.Common.{inl, inr, refl, sym, ap, ◌∙◌, subst, arith}
use Rattle.std.proofs.lemmas.Bool.{cases_Bool, leb-true, leb-false, le-leb, lt-leb, cases_eq}
use Rattle.std.proofs.lemmas.Bool.{cases_lt, cond-true, cond-false}
use Rattle.std.proofs.lemmas.Option.{none-some, same_Some}
use Rattle.pm_base.specs.Counts.{one_if}
use Rattle.pm_base.specs.Sides.{face_of}
use Rattle.pm_forest.specs.Forest.{Hierarchy, record_at, record_count}
use Rattle.pm_forest.specs.Faces.{first_face, face_count, revealed_after, revealed_by, record_of}

module _ (h : Hierarchy) where
  pub first_face-mono : (k n : ℕ) → k ≤ n → first_face h k ≤ first_face h n
  unfolding first_face
  first_face-mono k zero l = let e : k ≡ 0 = omega arith in rw e (omega arith)
  first_face-mono k (suc n) l =
      elim (cases_lt n k) [
        | inl b ↦ (let e : k ≡ suc n = omega arith in rw e (omega arith))
        | inr b ↦ (let r = first_face-mono k n b in omega arith)
      ]

  revealed_after-parts : (n f k : ℕ) → f < first_face h n → revealed_after h n f ≡ Some k
      → (k < n) × (first_face h k ≤ f) × (f < first_face h (suc k))
  unfolding revealed_after
  revealed_after-parts zero f k l e = absurd (none-some k e)
  revealed_after-parts (suc n) f k l e =
      elim (cases_Bool (leb (first_face h n) f)) [
        | inl a ↦
            let is : n ≡ k = same_Some n k (sym (cond-true _ _ _ a) ∙ e) in
            let low = leb-true _ _ a in
            subst (λ i. (i < suc n) × (first_face h i ≤ f) × (f < first_face h (suc i))) is
            (omega arith, low, l)
        | inr a ↦
            let high = leb-false _ _ a in
            let r = revealed_after-parts n f k high (sym (cond-false _ _ _ a) ∙ e) in
            (omega arith, r.1, r.2)
      ]

  pub revealed-parts : (f k : ℕ) → f < face_count h → revealed_by h f ≡ Some k
      → (k < record_count h) × (first_face h k ≤ f) × (f < first_face h (suc k))
  revealed-parts f k l e = revealed_after-parts (record_count h) f k l e

  revealed_after-from : (n f k : ℕ) → k < n → first_face h k ≤ f → f < first_face h (suc k)
      → revealed_after h n f ≡ Some k
  unfolding revealed_after
  revealed_after-from zero f k l a b = absurd (omega arith)
  revealed_after-from (suc n) f k l a b =
      elim (cases_eq k n) [
        | inl is ↦ (let low : first_face h n ≤ f = subst (λ i. first_face h i ≤ f) is a in
            cond-true _ _ _ (le-leb _ _ low) ∙ ap Some (sym is))
        | inr n' ↦
            let m = first_face-mono (suc k) n (omega arith) in
            cond-false _ _ _ (lt-leb (first_face h n) f (omega arith))
            ∙ revealed_after-from n f k (omega arith) a b
      ]

  pub revealed-from : (f k : ℕ) → k < record_count h → first_face h k ≤ f → f < first_face h (suc k)
      → revealed_by h f ≡ Some k
  revealed-from f k l a b = revealed_after-from (record_count h) f k l a b

  pub record-lt : (e k : ℕ) → e < 3 * face_count h → record_of h e ≡ Some k → k < record_count h
  record-lt e k l r = (revealed-parts (face_of e) k (omega arith) r).0

  -- A face of record k is its left face or its right face.
  pub which_face : (f k : ℕ) → f < face_count h → revealed_by h f ≡ Some k →
      ((is_some (record_at h k).left ≡ true) × (f ≡ first_face h k))
      ⊎ ((is_some (record_at h k).right ≡ true)
      × (f ≡ first_face h k + one_if (is_some (record_at h k).left)))
  unfolding first_face
  which_face f k l own =
      let x = is_some (record_at h k).left in
      let y = is_some (record_at h k).right in
      let count : first_face h (suc k) ≡ first_face h k + one_if x + one_if y = refl in
      let parts = revealed-parts f k l own in
      let right_of : first_face h k + one_if x ≤ f → (y ≡ true) × (f ≡ first_face h k + one_if x) =
      λ low.
      elim (cases_Bool y) [
        | inl u ↦ (let one : one_if y ≡ 1 = ap one_if u in (u, omega arith))
        | inr u ↦ (let none : one_if y ≡ 0 = ap one_if u in absurd (omega arith))
      ] in
      elim (cases_Bool x) [
        | inl t ↦
            let one : one_if x ≡ 1 = ap one_if t in
            elim (cases_eq f (first_face h k)) [
              | inl is ↦ inl (t, is)
              | inr differs ↦
                  inr (right_of (omega arith))
            ]
        | inr t ↦ (let none : one_if x ≡ 0 = ap one_if t in inr (right_of (omega arith)))
      ]
