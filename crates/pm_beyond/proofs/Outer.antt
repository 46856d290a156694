-- The outer sides of a record's faces as a list, and the test of needs.
use Rattle.std.proofs.Common.{◌≡◌, ◌≢◌, ℕ, suc, ◌+◌, ◌*◌, ◌<◌, eqb, true, false, cond, Option, Some}
use Rattle.std.proofs.Common.{None, is_some, [], ◌∷◌, inl, inr, refl, sym, ap, ◌∙◌, subst, arith}
use Rattle.std.specs.List.{list_any}
use Rattle.std.proofs.lemmas.Bool.{eqb-true, eq-eqb, cases_Bool, cond-true, cond-false, false≢true}
use Rattle.std.proofs.lemmas.Bool.{or_cases, or_left, or_right}
use Rattle.std.proofs.lemmas.Option.{none-some}
use Rattle.pm_base.specs.Sides.{face_of, next}
use Rattle.pm_base.specs.Counts.{one_if}
use Rattle.pm_base.proofs.Sides.{face_of-next}
use Rattle.pm_forest.specs.Forest.{Hierarchy, record_at, record_count, s_of, maker_of}
use Rattle.pm_forest.specs.Faces.{first_face, face_count, revealed_by, inner_of, record_of}
use Rattle.pm_forest.proofs.Nodes.{maker_of-makes, maker_of-from}
use Rattle.pm_forest.proofs.Sides.{next-differs, next_next-differs, inner-face, three_sides}
use Rattle.pm_forest.proofs.FaceNumbers.{which_face, first_face-mono, revealed-from}
use Rattle.pm_beyond.specs.Walks.{IsOuter, expected}
use Rattle.pm_beyond.specs.Moves.{Needs, as_maker, as_neighbour, outer_pair, outer_sides, is_at}
use Rattle.pm_beyond.specs.Moves.{record_beyond, needs}
use Rattle.pm_beyond.proofs.Distinct.{In, in-append, in-append_left, in-append_right, any-parts}
use Rattle.pm_beyond.proofs.Distinct.{any-from}

module _ (h : Hierarchy) where
  pair-is : (k f e : ℕ) → In e (outer_pair h k f) → (face_of e ≡ f) × (e ≢ inner_of h k f)
  pair-is k f e i =
      let n = inner_of h k f in
      let face = inner-face h k f in
      let a = face_of-next n in
      let b = face_of-next (next n) in
      elim (or_cases (eqb e (next n)) (list_any (eqb e) (next (next n) ∷ [])) i) [
        | inl q ↦ (let is =
            eqb-true e (next n) q in (ap face_of is ∙ a ∙ face, λ z. next-differs n (sym is ∙ z)))
        | inr r ↦
            elim (or_cases (eqb e (next (next n))) false r) [
              | inl q ↦ (let is =
                  eqb-true e (next (next n)) q in
                  (ap face_of is ∙ b ∙ a ∙ face, λ z. next_next-differs n (sym is ∙ z)))
              | inr q ↦ absurd (false≢true q)
            ]
      ]

  pair-has : (k f e : ℕ) → face_of e ≡ f → e ≢ inner_of h k f → In e (outer_pair h k f)
  pair-has k f e same other =
      let n = inner_of h k f in
      elim (three_sides e n (same ∙ sym (inner-face h k f))) [
        | inl z ↦ absurd (other z)
        | inr which ↦
            elim which [
              | inl z ↦ or_left (eqb e (next n)) (list_any (eqb e) (next (next n) ∷ []))
                  (eq-eqb e (next n) z)
              | inr z ↦ or_right (eqb e (next n)) (list_any (eqb e) (next (next n) ∷ []))
                  (or_left (eqb e (next (next n))) false (eq-eqb e (next (next n)) z))
            ]
      ]

  pub outer_sides-outer : (k e : ℕ) → k < record_count h → In e (outer_sides h k)
      → IsOuter h k e × (e < 3 * face_count h)
  unfolding outer_sides first_face
  outer_sides-outer k e l i =
      let a = is_some (record_at h k).left in
      let b = is_some (record_at h k).right in
      let f = first_face h k in
      let g = first_face h k + one_if a in
      let count : first_face h (suc k) ≡ f + one_if a + one_if b = refl in
      let top = first_face-mono h (suc k) (record_count h) l in
      elim (in-append e (cond a (outer_pair h k f) []) (cond b (outer_pair h k g) []) i) [
        | inl p ↦
            elim (cases_Bool a) [
              | inl t ↦
                  let q = pair-is k f e
                  (subst (λ xs. In e xs) (cond-true a (outer_pair h k f) [] t) p) in
                  let one : one_if a ≡ 1 = ap one_if t in
                  let r = revealed-from h f k l (omega arith) (omega arith) in (
                    (ap (λ x. revealed_by h x) q.0 ∙ r, λ z. q.1 (z ∙ ap (inner_of h k) q.0)),
                    omega arith,
                  )
              | inr t ↦ absurd
                  (false≢true (subst (λ xs. In e xs) (cond-false a (outer_pair h k f) [] t) p))
            ]
        | inr p ↦
            elim (cases_Bool b) [
              | inl t ↦
                  let q = pair-is k g e
                  (subst (λ xs. In e xs) (cond-true b (outer_pair h k g) [] t) p) in
                  let one : one_if b ≡ 1 = ap one_if t in
                  let r = revealed-from h g k l (omega arith) (omega arith) in (
                    (ap (λ x. revealed_by h x) q.0 ∙ r, λ z. q.1 (z ∙ ap (inner_of h k) q.0)),
                    omega arith,
                  )
              | inr t ↦ absurd
                  (false≢true (subst (λ xs. In e xs) (cond-false b (outer_pair h k g) [] t) p))
            ]
      ]

  pub outer_sides-has : (k e : ℕ) → e < 3 * face_count h → IsOuter h k e → In e (outer_sides h k)
  unfolding outer_sides
  outer_sides-has k e l outer =
      let a = is_some (record_at h k).left in
      let b = is_some (record_at h k).right in
      let f = first_face h k in
      let g = first_face h k + one_if a in
      elim (which_face h (face_of e) k (omega arith) outer.0) [
        | inl p ↦
            in-append_left e (cond a (outer_pair h k f) []) (cond b (outer_pair h k g) [])
            (subst (λ xs. In e xs) (sym (cond-true a (outer_pair h k f) [] p.0))
            (pair-has k f e p.1 (λ z. outer.1 (z ∙ ap (inner_of h k) (sym p.1)))))
        | inr p ↦
            in-append_right e (cond a (outer_pair h k f) []) (cond b (outer_pair h k g) [])
            (subst (λ xs. In e xs) (sym (cond-true b (outer_pair h k g) [] p.0))
            (pair-has k g e p.1 (λ z. outer.1 (z ∙ ap (inner_of h k) (sym p.1)))))
      ]

pub is_at-parts : (k : ℕ) (r : Option ℕ) → is_at k r ≡ true → r ≡ Some k
is_at-parts k None e = absurd (false≢true e)
is_at-parts k (Some m) e = ap Some (eqb-true m k e)

pub is_at-from : (k : ℕ) (r : Option ℕ) → r ≡ Some k → is_at k r ≡ true
is_at-from k r e = ap (is_at k) e ∙ eq-eqb k k refl

module _ (h : Hierarchy) where
  record_beyond-parts : (k : ℕ) (r : Option ℕ) → record_beyond h r ≡ Some k → (b : ℕ) × (r ≡ Some b)
      × (record_of h b ≡ Some k)
  record_beyond-parts k None e = absurd (none-some k e)
  record_beyond-parts k (Some b) e = (b, refl, e)

  pub needs-true : (j k : ℕ) → j < record_count h → needs h j k ≡ true → Needs h j k
  unfolding needs
  needs-true j k l e =
      elim (or_cases (is_at k (maker_of h (s_of h j)))
      (list_any (λ e. is_at k (record_beyond h (expected h e))) (outer_sides h j)) e) [
        | inl t ↦ as_maker (maker_of-makes h k (s_of h j) (is_at-parts k _ t))
        | inr t ↦
            let (s, i, u) =
            any-parts (λ e. is_at k (record_beyond h (expected h e))) (outer_sides h j) t in
            let (b, q, r) = record_beyond-parts k (expected h s) (is_at-parts k _ u) in
            let outer = outer_sides-outer h j s l i in
            as_neighbour s b outer.1 outer.0 q r
      ]

  pub needs-from : (j k : ℕ) → Needs h j k → needs h j k ≡ true
  unfolding needs
  needs-from j k (as_maker m) =
      or_left (is_at k (maker_of h (s_of h j)))
      (list_any (λ e. is_at k (record_beyond h (expected h e))) (outer_sides h j))
      (is_at-from k (maker_of h (s_of h j)) (maker_of-from h k (s_of h j) m))
  needs-from j k (as_neighbour s b l outer q r) =
      or_right (is_at k (maker_of h (s_of h j)))
      (list_any (λ e. is_at k (record_beyond h (expected h e))) (outer_sides h j))
      (any-from (λ e. is_at k (record_beyond h (expected h e))) (outer_sides h j) s
      (outer_sides-has h j s l outer)
      (is_at-from k (record_beyond h (expected h s)) (ap (record_beyond h) q ∙ r)))
