-- A record's faces by their sides, and what the record tells of them.
use Rattle.std.proofs.Common.{◌≡◌, ℕ, ◌+◌, ◌<◌, true, false, eqb, cond, ◌&&◌, Option, Some, None}
use Rattle.std.proofs.Common.{is_some, IfSome, inl, inr, refl, sym, ap, ◌∙◌, unwrap_or, arith}
use Rattle.std.proofs.lemmas.Bool.{cases_Bool, eq-eqb, ne_eqb, cond-true, cond-false}
use Rattle.std.proofs.lemmas.Bool.{and_left, and_right, and_from}
use Rattle.pm_base.specs.Counts.{one_if}
use Rattle.pm_base.specs.Sides.{next}
use Rattle.pm_forest.specs.declared.parts.NewFace.{NewFace}
use Rattle.pm_forest.specs.Forest.{Hierarchy, record_at, record_count}
use Rattle.pm_forest.specs.Faces.{first_face, revealed_by, record_of, inner_of, is_left}
use Rattle.pm_forest.specs.Faces.{new_face, no_face}
use Rattle.pm_forest.proofs.ShapeLaws.{left_from}
use Rattle.pm_forest.proofs.Sides.{inner-face}
use Rattle.pm_beyond.specs.Walks.{mate_of, expected_at, expected, number_of}
use Rattle.pm_sides.specs.declared.record_face.RecordFace.{RecordFace}
use Rattle.pm_sides.specs.Told.{IsFaceOf, inner_side}
use Rattle.pm_sides.proofs.FirstLaws.{left_there, right_there, left_own, right_own}

module _ (h : Hierarchy) (k : ℕ) where
  -- The number of the right face, if the record has one.
  abbrev pub right_number : ℕ
  right_number = first_face h k + one_if (is_some (record_at h k).left)

  pub right_from : is_left h k (first_face h k + one_if (is_some (record_at h k).left)) ≡ false
  unfolding is_left
  right_from =
      let there = is_some (record_at h k).left in
      elim (cases_Bool there) [
        | inl has ↦
            let one : one_if there ≡ 1 = ap one_if has in
            and_right there (eqb right_number (first_face h k))
            (ne_eqb right_number (first_face h k) (omega arith))
        | inr none ↦ and_left there (eqb right_number (first_face h k)) none
      ]

  -- what the record tells of the face's inner side
  pub inner_expected : (f : ℕ) → revealed_by h f ≡ Some k
      → expected h (inner_of h k f) ≡ mate_of h k f
  unfolding expected
  inner_expected f own =
      let i = inner_of h k f in
      let r : record_of h i ≡ Some k = ap (λ g. revealed_by h g) (inner-face h k f) ∙ own in
      ap (expected_at h i) r
      ∙ ap (λ g. cond (eqb i (inner_of h k g)) (mate_of h k g)
      (cond (eqb i (next (inner_of h k g))) (number_of (new_face h k g).first)
      (number_of (new_face h k g).second))) (inner-face h k f)
      ∙ cond-true (eqb i i) (mate_of h k f)
      (cond (eqb i (next i)) (number_of (new_face h k f).first)
      (number_of (new_face h k f).second)) (eq-eqb i i refl)

  pub left_made : (n : NewFace) (face : RecordFace) → k < record_count h
      → (record_at h k).left ≡ Some n → face.inner.0 ≡ inner_of h k (first_face h k)
      → face.told.now ≡ n → IsFaceOf h k (first_face h k) face
  left_made n face l is inner told =
      let f = first_face h k in
      let has : is_some (record_at h k).left ≡ true = ap is_some is in
      record {
        there = left_there h k l has;
        own = left_own h k l has;
        inner = inner;
        told = told ∙ sym (cond-true (is_left h k f) (unwrap_or (record_at h k).left no_face)
            (unwrap_or (record_at h k).right no_face) (left_from h k f has refl)
            ∙ ap (λ (o : Option NewFace). unwrap_or o no_face) is);
      }

  pub right_made : (n : NewFace) (face : RecordFace) → k < record_count h
      → (record_at h k).right ≡ Some n
      → face.inner.0 ≡ inner_of h k (first_face h k + one_if (is_some (record_at h k).left))
      → face.told.now ≡ n
      → IsFaceOf h k (first_face h k + one_if (is_some (record_at h k).left)) face
  right_made n face l is inner told =
      let f = right_number in
      let has : is_some (record_at h k).right ≡ true = ap is_some is in
      record {
        there = right_there h k l has;
        own = right_own h k l has;
        inner = inner;
        told = told ∙ sym (cond-false (is_left h k f) (unwrap_or (record_at h k).left no_face)
            (unwrap_or (record_at h k).right no_face) right_from
            ∙ ap (λ (o : Option NewFace). unwrap_or o no_face) is);
      }

  -- the inner side of a face's mate is told of the face's inner side
  pub left_mate : (left right : Option RecordFace) → is_some left ≡ is_some (record_at h k).left
      → is_some right ≡ is_some (record_at h k).right
      → IfSome right (IsFaceOf h k (first_face h k + one_if (is_some (record_at h k).left)))
      → is_some left ≡ true → inner_side right ≡ mate_of h k (first_face h k)
  unfolding mate_of
  left_mate left None has_left has_right is there =
      sym (cond-false (is_some (record_at h k).left && is_some (record_at h k).right) _ None
      (and_right (is_some (record_at h k).left) (is_some (record_at h k).right) (sym has_right)))
  left_mate left (Some face) has_left has_right is there =
      let in_record = sym has_left ∙ there in
      let second : right_number ≡ first_face h k + 1 =
      ap (λ b. first_face h k + one_if b) in_record in
      ap Some (is.inner ∙ ap (inner_of h k) (second
      ∙ sym (cond-true (is_left h k (first_face h k)) (first_face h k + 1) (first_face h k)
      (left_from h k (first_face h k) in_record refl))))
      ∙ sym (cond-true (is_some (record_at h k).left && is_some (record_at h k).right) _ None
      (and_from (is_some (record_at h k).left) (is_some (record_at h k).right) in_record
      (sym has_right)))

  pub right_mate : (left right : Option RecordFace) → is_some left ≡ is_some (record_at h k).left
      → is_some right ≡ is_some (record_at h k).right
      → IfSome left (IsFaceOf h k (first_face h k)) → is_some right ≡ true
      → inner_side left ≡ mate_of h k (first_face h k + one_if (is_some (record_at h k).left))
  unfolding mate_of
  right_mate None right has_left has_right is there =
      sym (cond-false (is_some (record_at h k).left && is_some (record_at h k).right) _ None
      (and_left (is_some (record_at h k).left) (is_some (record_at h k).right) (sym has_left)))
  right_mate (Some face) right has_left has_right is there =
      ap Some (is.inner ∙ ap (inner_of h k) (sym (cond-false (is_left h k right_number)
      (first_face h k + 1) (first_face h k) right_from)))
      ∙ sym (cond-true (is_some (record_at h k).left && is_some (record_at h k).right) _ None
      (and_from (is_some (record_at h k).left) (is_some (record_at h k).right) (sym has_left)
      (sym has_right ∙ there)))
