-- The two outer sides of a record's face: those that follow its inner side.
use Rattle.std.proofs.Common.{◌≡◌, ◌⊎◌, ℕ, eqb, cond, Some, None, inl, inr, refl, sym, ap, ◌∙◌}
use Rattle.std.proofs.lemmas.Bool.{eq-eqb, ne_eqb, cond-true, cond-false}
use Rattle.pm_base.specs.Sides.{face_of, next}
use Rattle.pm_base.proofs.Sides.{face_of-next}
use Rattle.pm_forest.specs.Forest.{Hierarchy}
use Rattle.pm_forest.specs.Faces.{revealed_by, inner_of}
use Rattle.pm_forest.proofs.Sides.{next-differs, next_next-differs, inner-face, three_sides}
use Rattle.pm_beyond.specs.Walks.{IsOuter, across, across_at}

module _ (h : Hierarchy) (k f : ℕ) (own : revealed_by h f ≡ Some k) where
  abbrev inner : ℕ
  inner = inner_of h k f

  abbrev first : ℕ
  first = next inner

  abbrev second : ℕ
  second = next (next inner)

  pub first-face : face_of first ≡ f
  first-face = face_of-next inner ∙ inner-face h k f

  pub second-face : face_of second ≡ f
  second-face = face_of-next first ∙ first-face

  pub first-outer : IsOuter h k (next (inner_of h k f))
  first-outer = (
    ap (λ g. revealed_by h g) first-face ∙ own,
    λ is. next-differs inner (is ∙ ap (inner_of h k) first-face),
  )

  pub second-outer : IsOuter h k (next (next (inner_of h k f)))
  second-outer = (
    ap (λ g. revealed_by h g) second-face ∙ own,
    λ is. next_next-differs inner (is ∙ ap (inner_of h k) second-face),
  )

  -- each leads to the other
  pub from_first : across h first ≡ Some second
  unfolding across
  from_first =
      ap (across_at h first) first-outer.0
      ∙ ap (λ g. cond (eqb first (inner_of h k g)) None
      (cond (eqb first (next (inner_of h k g))) (Some (next (next (inner_of h k g))))
      (Some (next (inner_of h k g))))) first-face
      ∙ cond-false (eqb first inner) None (cond (eqb first first) (Some second) (Some first))
      (ne_eqb first inner (next-differs inner))
      ∙ cond-true (eqb first first) (Some second) (Some first) (eq-eqb first first refl)

  pub from_second : across h second ≡ Some first
  unfolding across
  from_second =
      ap (across_at h second) second-outer.0
      ∙ ap (λ g. cond (eqb second (inner_of h k g)) None
      (cond (eqb second (next (inner_of h k g))) (Some (next (next (inner_of h k g))))
      (Some (next (inner_of h k g))))) second-face
      ∙ cond-false (eqb second inner) None (cond (eqb second first) (Some second) (Some first))
      (ne_eqb second inner (next_next-differs inner))
      ∙ cond-false (eqb second first) (Some second) (Some first)
      (ne_eqb second first (next-differs first))

  -- and there are no others
  pub outer_cases : (e : ℕ) → face_of e ≡ f → IsOuter h k e → (e ≡ first) ⊎ (e ≡ second)
  outer_cases e at outer = elim (three_sides e inner (at ∙ sym (inner-face h k f))) [
    | inl is ↦ absurd (outer.1 (is ∙ ap (inner_of h k) (sym at)))
    | inr other ↦ other
  ]
