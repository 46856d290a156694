-- What a record tells beyond the sides of one of its faces, and that a held face has a side with a
-- neighbour.
use Rattle.std.proofs.Common.{◌≡◌, ℕ, ◌<◌, eqb, true, false, cond, Option, Some, None, inl, inr}
use Rattle.std.proofs.Common.{refl, sym, ap, ◌∙◌, subst}
use Rattle.std.specs.Option.{is_some, unwrap_or}
use Rattle.std.proofs.lemmas.Bool.{cases_Bool, both_ways, false≢true, or_cases, cond-true}
use Rattle.std.proofs.lemmas.Bool.{cond-false, and_parts, eq-eqb}
use Rattle.pm_base.specs.Sides.{face_of, next}
use Rattle.pm_base.specs.declared.ids.Side.{Side}
use Rattle.pm_base.proofs.Search.{some_from}
use Rattle.pm_base.proofs.Sides.{face_of-next}
use Rattle.pm_forest.specs.declared.parts.NewFace.{NewFace}
use Rattle.pm_forest.specs.Forest.{Hierarchy, record_at}
use Rattle.pm_forest.specs.Faces.{first_face, face_count, revealed_by, is_left, no_face, new_face}
use Rattle.pm_forest.specs.Faces.{inner_of}
use Rattle.pm_forest.proofs.FaceNumbers.{which_face}
use Rattle.pm_forest.proofs.ShapeLaws.{left_from}
use Rattle.pm_forest.proofs.Sides.{next-differs, next_next-differs, inner-face}
use Rattle.pm_beyond.specs.Walks.{IsOuter, expected_at, expected, mate_of, number_of}
use Rattle.pm_beyond.proofs.Neighbours.{first_expected, second_expected}
use Rattle.pm_firm.specs.Firm.{HasNeighbour, FacesAreHeld}

some_number : (r : Option Side) → is_some r ≡ true → (b : ℕ) × (number_of r ≡ Some b)
some_number None e = absurd (false≢true e)
some_number (Some x) e = (x.0, refl)

module _ (h : Hierarchy) (k f : ℕ) (fl : f < face_count h) (own : revealed_by h f ≡ Some k) where
  abbrev i : ℕ
  i = inner_of h k f

  face_first : face_of (next (inner_of h k f)) ≡ f
  face_first = face_of-next (inner_of h k f) ∙ inner-face h k f

  face_second : face_of (next (next (inner_of h k f))) ≡ f
  face_second = face_of-next (next (inner_of h k f)) ∙ face_first

  pub inner_expected : expected h (inner_of h k f) ≡ mate_of h k f
  unfolding expected
  inner_expected =
      let face = inner-face h k f in
      ap (expected_at h i) (ap (λ g. revealed_by h g) face ∙ own)
      ∙ ap (λ g. cond (eqb i (inner_of h k g)) (mate_of h k g)
      (cond (eqb i (next (inner_of h k g))) (number_of (new_face h k g).first)
      (number_of (new_face h k g).second))) face
      ∙ cond-true (eqb i i) (mate_of h k f)
      (cond (eqb i (next i)) (number_of (new_face h k f).first)
      (number_of (new_face h k f).second)) (eq-eqb i i refl)

  pub outer-first : IsOuter h k (next (inner_of h k f))
  outer-first = (
    ap (λ g. revealed_by h g) face_first
        ∙ own,
    λ is. next-differs i (is ∙ ap (inner_of h k) face_first),
  )

  pub outer-second : IsOuter h k (next (next (inner_of h k f)))
  outer-second = (
    ap (λ g. revealed_by h g) face_second
        ∙ own,
    λ is. next_next-differs i (is ∙ ap (inner_of h k) face_second),
  )

  -- the face is the left or the right one of the record
  pub is-left-face : (n : NewFace) → is_left h k f ≡ true → (record_at h k).left ≡ Some n
      → new_face h k f ≡ n
  is-left-face n is there =
      cond-true (is_left h k f) (unwrap_or (record_at h k).left no_face)
      (unwrap_or (record_at h k).right no_face) is ∙ ap (λ r. unwrap_or r no_face) there

  pub is-right-face : (n : NewFace) → is_left h k f ≡ false → (record_at h k).right ≡ Some n
      → new_face h k f ≡ n
  is-right-face n is there =
      cond-false (is_left h k f) (unwrap_or (record_at h k).left no_face)
      (unwrap_or (record_at h k).right no_face) is ∙ ap (λ r. unwrap_or r no_face) there

  is_held : FacesAreHeld h k → HasNeighbour (new_face h k f)
  unfolding is_left
  is_held held =
      elim (cases_Bool (is_left h k f)) [
        | inl is ↦
            let p = and_parts (is_some (record_at h k).left) (eqb f (first_face h k)) is in
            let (n, there) = some_from (record_at h k).left p.0 in
            subst HasNeighbour (sym (is-left-face n is there)) (held.left n there)
        | inr is ↦
            elim (which_face h f k fl own) [
              | inl (a, b) ↦ absurd (both_ways (is_left h k f) is (left_from h k f a b))
              | inr (a, b) ↦
                  let (n, there) = some_from (record_at h k).right a in
                  subst HasNeighbour (sym (is-right-face n is there)) (held.right n there)
            ]
      ]

  -- A held face has an outer side at which a neighbour is recorded.
  pub held_side : FacesAreHeld h k → (e : ℕ) × (b : ℕ) × (face_of e ≡ f) × IsOuter h k e
      × (expected h e ≡ Some b)
  held_side held =
      elim (or_cases (is_some (new_face h k f).first) (is_some (new_face h k f).second)
      (is_held held)) [
        | inl a ↦ (let (b, is) = some_number (new_face h k f).first a in
            (next i, b, face_first, outer-first, first_expected h k f own ∙ is))
        | inr a ↦ (let (b, is) = some_number (new_face h k f).second a in
            (next (next i), b, face_second, outer-second, second_expected h k f own ∙ is))
      ]
