-- What is expected beyond the sides of a record's faces: at outer sides the recorded neighbours,
-- which are older, and at inner sides the inner side of the other face.
use Rattle.std.proofs.Common.{true, false, ◌≡◌, ◌≢◌, ℕ, suc, ◌+◌, ◌*◌, ◌<◌, ◌≤◌, eqb, cond, ◌&&◌}
use Rattle.std.proofs.Common.{◌++◌, [], ◌∷◌, Option, None, Some, is_some, inl, inr, refl, sym, ap}
use Rattle.std.proofs.Common.{◌∙◌, subst, arith}
use Rattle.std.specs.Option.{unwrap_or}
use Rattle.std.proofs.lemmas.Bool.{cases_Bool, eq-eqb, ne_eqb, and_parts, and_from, and_left}
use Rattle.std.proofs.lemmas.Bool.{and_right, cases_lt, cond-true, cond-false}
use Rattle.std.proofs.lemmas.Option.{none-some, same_Some, cond_some}
use Rattle.pm_base.specs.declared.ids.Side.{Side}
use Rattle.pm_base.specs.Sides.{face_of, next}
use Rattle.pm_base.specs.Counts.{one_if}
use Rattle.pm_base.proofs.Sides.{face_of-next}
use Rattle.pm_forest.specs.declared.parts.NewFace.{NewFace}
use Rattle.pm_forest.specs.Forest.{Hierarchy, record_at, record_count}
use Rattle.pm_forest.specs.Faces.{no_face, first_face, face_count, revealed_by, is_left, new_face}
use Rattle.pm_forest.specs.Faces.{inner_of, record_of}
use Rattle.pm_forest.specs.Moves.{side_in, neighbours_in, neighbours_of}
use Rattle.pm_forest.specs.Rules.{HasShape}
use Rattle.pm_forest.proofs.Sides.{next-differs, next_next-differs, inner-face, three_sides}
use Rattle.pm_forest.proofs.FaceNumbers.{first_face-mono, revealed-parts, revealed-from, record-lt}
use Rattle.pm_forest.proofs.FaceNumbers.{which_face}
use Rattle.pm_forest.proofs.FaceLimits.{neighbours_of-older}
use Rattle.pm_beyond.specs.Walks.{IsInner, IsOuter, number_of, mate_of, expected_at, expected}
use Rattle.pm_beyond.proofs.Distinct.{In, in-here, in-nil, in-cases, in-append, in-append_left}
use Rattle.pm_beyond.proofs.Distinct.{in-append_right, all-in}

in_side-from : (o : Option Side) (b : ℕ) → number_of o ≡ Some b → In b (side_in o)
in_side-from None b e = absurd (none-some b e)
in_side-from (Some s) b e = subst (λ x. In b (x ∷ [])) (sym (same_Some s.0 b e)) (in-here b [])

in_side-parts : (o : Option Side) (b : ℕ) → In b (side_in o) → number_of o ≡ Some b
in_side-parts None b i = absurd (in-nil b i)
in_side-parts (Some s) b i =
    elim (in-cases b s.0 [] i) [ inl is ↦ ap Some (sym is) | inr j ↦ absurd (in-nil b j) ]

-- The neighbours of a face that is there.
neighbours_there : (o : Option NewFace) → is_some o ≡ true
    → neighbours_in o ≡ side_in (unwrap_or o no_face).first ++ side_in (unwrap_or o no_face).second
neighbours_there None e = absurd cc
neighbours_there (Some n) e = refl

is_there : (o : Option NewFace) (b : ℕ) → In b (neighbours_in o) → is_some o ≡ true
is_there None b i = absurd (in-nil b i)
is_there (Some n) b i = refl

module _ (h : Hierarchy) where
  -- Beyond the inner side of a record's face the inner side of its other face is expected.
  pub expected-inner : (k e b : ℕ) → e < 3 * face_count h → IsInner h k e → expected h e ≡ Some b
      → IsInner h k b
  unfolding expected mate_of first_face
  expected-inner k e b l p q =
      let f = face_of e in
      let m : mate_of h k f ≡ Some b =
      sym (cond-true _ (mate_of h k f)
      (cond (eqb e (next (inner_of h k f))) (number_of (new_face h k f).first)
      (number_of (new_face h k f).second)) (eq-eqb e _ p.1)) ∙ (rw p.0 at q) in
      let g = cond (is_left h k f) (first_face h k + 1) (first_face h k) in
      let c = cond_some (is_some (record_at h k).left && is_some (record_at h k).right)
      (inner_of h k g) b m in
      let both = and_parts (is_some (record_at h k).left) (is_some (record_at h k).right) c.0 in
      let count : first_face h (suc k) ≡ first_face h k + 1 + 1 = (rw (both.0, both.1) refl) in
      let low : first_face h k ≤ g =
      elim (cases_Bool (is_left h k f)) [
        | inl t ↦ (rw (cond-true _ (first_face h k + 1) (first_face h k) t) (omega arith))
        | inr t ↦ (rw (cond-false _ (first_face h k + 1) (first_face h k) t) (omega arith))
      ] in
      let high : g < first_face h (suc k) =
      elim (cases_Bool (is_left h k f)) [
        | inl t ↦ (rw (cond-true _ (first_face h k + 1) (first_face h k) t) (omega arith))
        | inr t ↦ (rw (cond-false _ (first_face h k + 1) (first_face h k) t) (omega arith))
      ] in
      let face : face_of b ≡ g = ap face_of (sym c.1) ∙ inner-face h k g in
      let r : revealed_by h g ≡ Some k = revealed-from h g k (record-lt h e k l p.0) low high in
      (ap (λ i. revealed_by h i) face ∙ r, sym c.1 ∙ ap (inner_of h k) (sym face))

  -- The two outer sides of face f of record k.
  pub first_expected : (k f : ℕ) → revealed_by h f ≡ Some k → expected h (next (inner_of h k f))
      ≡ number_of (new_face h k f).first
  unfolding expected
  first_expected k f own =
      let i = inner_of h k f in
      let e = next i in
      let face : face_of e ≡ f = face_of-next i ∙ inner-face h k f in
      let r : record_of h e ≡ Some k = ap (λ g. revealed_by h g) face ∙ own in
      ap (expected_at h e) r
      ∙ ap (λ g. cond (eqb e (inner_of h k g)) (mate_of h k g)
      (cond (eqb e (next (inner_of h k g))) (number_of (new_face h k g).first)
      (number_of (new_face h k g).second))) face
      ∙ cond-false (eqb e i) (mate_of h k f)
      (cond (eqb e (next i)) (number_of (new_face h k f).first)
      (number_of (new_face h k f).second)) (ne_eqb e i (next-differs i))
      ∙ cond-true (eqb e (next i)) (number_of (new_face h k f).first)
      (number_of (new_face h k f).second) (eq-eqb e (next i) refl)

  pub second_expected : (k f : ℕ) → revealed_by h f ≡ Some k
      → expected h (next (next (inner_of h k f))) ≡ number_of (new_face h k f).second
  unfolding expected
  second_expected k f own =
      let i = inner_of h k f in
      let e = next (next i) in
      let face : face_of e ≡ f = face_of-next (next i) ∙ face_of-next i ∙ inner-face h k f in
      let r : record_of h e ≡ Some k = ap (λ g. revealed_by h g) face ∙ own in
      ap (expected_at h e) r
      ∙ ap (λ g. cond (eqb e (inner_of h k g)) (mate_of h k g)
      (cond (eqb e (next (inner_of h k g))) (number_of (new_face h k g).first)
      (number_of (new_face h k g).second))) face
      ∙ cond-false (eqb e i) (mate_of h k f)
      (cond (eqb e (next i)) (number_of (new_face h k f).first)
      (number_of (new_face h k f).second)) (ne_eqb e i (next_next-differs i))
      ∙ cond-false (eqb e (next i)) (number_of (new_face h k f).first)
      (number_of (new_face h k f).second) (ne_eqb e (next i) (next-differs (next i)))

  -- The faces of record k are those that it has.
  left_is : (k f : ℕ) → is_some (record_at h k).left ≡ true → f ≡ first_face h k
      → new_face h k f ≡ unwrap_or (record_at h k).left no_face
  unfolding is_left
  left_is k f there is =
      cond-true _ (unwrap_or (record_at h k).left no_face) (unwrap_or (record_at h k).right no_face)
      (and_from (is_some (record_at h k).left) (eqb f (first_face h k)) there
      (eq-eqb f (first_face h k) is))

  right_is : (k f : ℕ) → f ≡ first_face h k + one_if (is_some (record_at h k).left)
      → new_face h k f ≡ unwrap_or (record_at h k).right no_face
  unfolding is_left
  right_is k f is =
      let x = is_some (record_at h k).left in
      let not_left : (x && eqb f (first_face h k)) ≡ false = elim (cases_Bool x) [
        | inl t ↦ (let one : one_if x ≡ 1 =
            ap one_if t in
            and_right x (eqb f (first_face h k)) (ne_eqb f (first_face h k) (omega arith)))
        | inr t ↦ and_left x (eqb f (first_face h k)) t
      ] in
      cond-false _ (unwrap_or (record_at h k).left no_face)
      (unwrap_or (record_at h k).right no_face) not_left

  of_face : (k f e b : ℕ) → revealed_by h f ≡ Some k → face_of e ≡ f → e ≢ inner_of h k f
      → expected h e ≡ Some b
      → In b (side_in (new_face h k f).first ++ side_in (new_face h k f).second)
  of_face k f e b own face other q =
      let i = inner_of h k f in
      let n = new_face h k f in
      elim (three_sides e i (face ∙ sym (inner-face h k f))) [
        | inl is ↦ absurd (other is)
        | inr which ↦ elim which [
          | inl is ↦ in-append_left b (side_in n.first) (side_in n.second)
              (in_side-from n.first b (sym (first_expected k f own) ∙ ap (expected h) (sym is) ∙ q))
          | inr is ↦ in-append_right b (side_in n.first) (side_in n.second)
              (in_side-from n.second b (sym (second_expected k f own) ∙ ap (expected h) (sym is)
              ∙ q))
        ]
      ]

  -- What is expected beyond an outer side is a neighbour that the record names,
  pub recorded-in : (k e b : ℕ) → e < 3 * face_count h → IsOuter h k e → expected h e ≡ Some b
      → In b (neighbours_of (record_at h k))
  recorded-in k e b l outer q =
      let r = record_at h k in
      let there = of_face k (face_of e) e b outer.0 refl outer.1 q in
      let n = new_face h k (face_of e) in
      elim (which_face h (face_of e) k (omega arith) outer.0) [
        | inl p ↦
            let is = left_is k (face_of e) p.0 p.1 in
            in-append_left b (neighbours_in r.left) (neighbours_in r.right)
            (subst (In b) (ap (λ (x : NewFace). side_in x.first ++ side_in x.second) is
            ∙ sym (neighbours_there r.left p.0)) there)
        | inr p ↦
            let is = right_is k (face_of e) p.1 in
            in-append_right b (neighbours_in r.left) (neighbours_in r.right)
            (subst (In b) (ap (λ (x : NewFace). side_in x.first ++ side_in x.second) is
            ∙ sym (neighbours_there r.right p.0)) there)
      ]

  -- An outer side of record k beyond which side b is expected.
  pub record Recorded (k b : ℕ) : Type 0 where
    pub side : ℕ
    pub is_side : side < 3 * face_count h
    pub outer : IsOuter h k side
    pub expects : expected h side ≡ Some b

  on_face : (k f b : ℕ) → k < record_count h → first_face h k ≤ f → f < first_face h (suc k)
      → In b (side_in (new_face h k f).first ++ side_in (new_face h k f).second) → Recorded k b
  on_face k f b l low high there =
      let i = inner_of h k f in
      let n = new_face h k f in
      let own = revealed-from h f k l low high in
      let top = first_face-mono h (suc k) (record_count h) l in
      let face = inner-face h k f in
      let second = face_of-next i ∙ face in
      let third = face_of-next (next i) ∙ second in
      elim (in-append b (side_in n.first) (side_in n.second) there) [
        | inl a ↦ record {
          side = next i;
          is_side = omega arith;
          outer = (
            ap (λ g. revealed_by h g) second
                ∙ own,
            λ is. next-differs i (is ∙ ap (inner_of h k) second),
          );
          expects = first_expected k f own ∙ in_side-parts n.first b a;
        }
        | inr a ↦ record {
          side = next (next i);
          is_side = omega arith;
          outer = (
            ap (λ g. revealed_by h g) third
                ∙ own,
            λ is. next_next-differs i (is ∙ ap (inner_of h k) third),
          );
          expects = second_expected k f own ∙ in_side-parts n.second b a;
        }
      ]

  -- and the other way round.
  pub recorded-has : (k b : ℕ) → k < record_count h → In b (neighbours_of (record_at h k))
      → Recorded k b
  unfolding first_face
  recorded-has k b l i =
      let r = record_at h k in
      let count : first_face h (suc k) ≡ first_face h k + one_if (is_some r.left) + one_if
      (is_some r.right) = refl in
      elim (in-append b (neighbours_in r.left) (neighbours_in r.right) i) [
        | inl a ↦
            let there = is_there r.left b a in
            let one : one_if (is_some r.left) ≡ 1 = ap one_if there in
            let f = first_face h k in
            let is = left_is k f there refl in
            on_face k f b l (omega arith) (omega arith)
            (subst (In b) (neighbours_there r.left there
            ∙ sym (ap (λ (x : NewFace). side_in x.first ++ side_in x.second) is)) a)
        | inr a ↦
            let there = is_there r.right b a in
            let one : one_if (is_some r.right) ≡ 1 = ap one_if there in
            let f = first_face h k + one_if (is_some r.left) in
            let is = right_is k f refl in
            on_face k f b l (omega arith) (omega arith)
            (subst (In b) (neighbours_there r.right there
            ∙ sym (ap (λ (x : NewFace). side_in x.first ++ side_in x.second) is)) a)
      ]

  -- Recorded neighbours are older.
  neighbour-low : HasShape h → (k e b : ℕ) → e < 3 * face_count h → IsOuter h k e
      → expected h e ≡ Some b → b < 3 * first_face h k
  neighbour-low shape k e b l p q =
      all-in (λ s. s < 3 * first_face h k) (neighbours_of (record_at h k))
      (neighbours_of-older h shape k (record-lt h e k l p.0)) b (recorded-in k e b l p q)

  pub expected-lt : HasShape h → (k e b : ℕ) → e < 3 * face_count h → IsOuter h k e
      → expected h e ≡ Some b → b < 3 * face_count h
  expected-lt shape k e b l p q =
      let older = neighbour-low shape k e b l p q in
      let top = first_face-mono h k (record_count h) (omega (arith, record-lt h e k l p.0)) in
      omega arith

  pub expected-older : HasShape h → (k e b m : ℕ) → e < 3 * face_count h → IsOuter h k e
      → expected h e ≡ Some b → record_of h b ≡ Some m → m < k
  expected-older shape k e b m l p q r =
      let older = neighbour-low shape k e b l p q in
      let top = first_face-mono h k (record_count h) (omega (arith, record-lt h e k l p.0)) in
      let parts = revealed-parts h (face_of b) m (omega arith) r in
      elim (cases_lt m k) [
        | inl a ↦ a
        | inr a ↦ (let mono = first_face-mono h k m a in absurd (omega arith))
      ]
