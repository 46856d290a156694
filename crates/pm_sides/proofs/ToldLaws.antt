-- Of each face of a record its sides are compared with what the record tells.
use Rattle.std.proofs.Common.{◌≡◌, ℕ, ◌*◌, ◌+◌, ◌<◌, ◌&&◌, ◌↔◌, Bool, true, Option, Some, None}
use Rattle.std.proofs.Common.{List, is_some, IfSome, length, inl, inr, refl, sym, ap, ◌∙◌, subst}
use Rattle.std.proofs.Common.{arith}
use Rattle.std.proofs.lemmas.Bool.{and_parts, and_from, false≢true}
use Rattle.pm_base.specs.declared.limits.TheConstants.{MOST_SIDES}
use Rattle.pm_base.specs.Counts.{one_if}
use Rattle.pm_base.specs.Sides.{NoSideTwice, beside_side, face_of, next}
use Rattle.pm_base.proofs.Sides.{face_of-next}
use Rattle.pm_forest.specs.declared.parts.NewFace.{NewFace}
use Rattle.pm_forest.specs.Forest.{Hierarchy, record_at}
use Rattle.pm_forest.specs.Fronts.{IsFront}
use Rattle.pm_forest.specs.Faces.{first_face, face_count, revealed_by, record_of}
use Rattle.pm_forest.specs.Rules.{HasShape}
use Rattle.pm_forest.proofs.FaceNumbers.{which_face}
use Rattle.pm_forest.proofs.FaceLimits.{face_count-most}
use Rattle.pm_forest.proofs.Shown.{shown_record}
use Rattle.pm_forest.proofs.ShapeLaws.{shape_is_forest}
use Rattle.pm_forest.proofs.Sides.{inner-face, three_sides}
use Rattle.pm_beyond.specs.Walks.{leaf_net, beyond_of, expected, mate_of, number_of}
use Rattle.pm_beyond.specs.Moves.{same_side}
use Rattle.pm_beyond.proofs.AnswerLaws.{same_side-from, same_side-parts}
use Rattle.pm_beyond.proofs.Neighbours.{first_expected, second_expected}
use Rattle.pm_beyond.proofs.WalkTheory.{one_beyond}
use Rattle.pm_sides.specs.declared.record_face.RecordFace.{RecordFace}
use Rattle.pm_sides.specs.Stored.{AreStored}
use Rattle.pm_sides.specs.Told.{TellsAll, IsFaceOf, HasSides, inner_side, tells_face}
use Rattle.pm_sides.proofs.FaceLaws.{inner_expected, left_mate, right_mate}

-- The table has what the record tells beside each side of face f.
abbrev pub TellsFace : Hierarchy → List (Option ℕ) → ℕ → Type 0
TellsFace h table f = (e : ℕ) → face_of e ≡ f → beside_side table e ≡ expected h e

module _ (h : Hierarchy) (k f : ℕ) (face : RecordFace) (is : IsFaceOf h k f face)
    (other : Option RecordFace) (mate : inner_side other ≡ mate_of h k f)
    (table : List (Option ℕ)) where
  abbrev inner : ℕ
  inner = face.inner.0

  inner_told : inner_side other ≡ expected h inner
  inner_told = mate ∙ sym (inner_expected h k f is.own) ∙ ap (expected h) (sym is.inner)

  inner_on : face_of inner ≡ f
  inner_on = ap face_of is.inner ∙ inner-face h k f

  first_told : number_of face.told.now.first ≡ expected h (next inner)
  first_told =
      ap (λ (n : NewFace). number_of n.first) is.told ∙ sym (first_expected h k f is.own)
      ∙ ap (λ i. expected h (next i)) (sym is.inner)

  second_told : number_of face.told.now.second ≡ expected h (next (next inner))
  second_told =
      ap (λ (n : NewFace). number_of n.second) is.told ∙ sym (second_expected h k f is.own)
      ∙ ap (λ i. expected h (next (next i))) (sym is.inner)

  face_tells : tells_face table (Some face) other ≡ true → TellsFace h table f
  face_tells tells e at =
      let parts = and_parts _ (same_side (beside_side table inner) (inner_side other)) tells in
      let told = face.told.now in
      let outer = and_parts (same_side (beside_side table (next inner)) (number_of told.first))
      (same_side (beside_side table (next (next inner))) (number_of told.second)) parts.0 in
      let Told : ℕ → Type 0 = λ i. beside_side table i ≡ expected h i in
      elim (three_sides e inner (at ∙ sym inner_on)) [
        | inl here ↦ subst Told (sym here) (same_side-parts _ _ parts.1 ∙ inner_told)
        | inr after ↦ elim after [
          | inl here ↦ subst Told (sym here) (same_side-parts _ _ outer.0 ∙ first_told)
          | inr here ↦ subst Told (sym here) (same_side-parts _ _ outer.1 ∙ second_told)
        ]
      ]

  tells_from : TellsFace h table f → tells_face table (Some face) other ≡ true
  tells_from all =
      and_from _ (same_side (beside_side table inner) (inner_side other))
      (and_from (same_side (beside_side table (next inner)) (number_of face.told.now.first))
      (same_side (beside_side table (next (next inner))) (number_of face.told.now.second))
      (same_side-from _ _ (all (next inner) (face_of-next inner ∙ inner_on) ∙ sym first_told))
      (same_side-from _ _ (all (next (next inner))
      (face_of-next (next inner) ∙ face_of-next inner ∙ inner_on) ∙ sym second_told)))
      (same_side-from _ _ (all inner inner_on ∙ sym inner_told))

-- the sides of a record's face are sides of the mesh
module _ (h : Hierarchy) (k f : ℕ) where
  pub in_table : (table : List (Option ℕ)) → length table ≡ 3 * face_count h
      → (face : Option RecordFace) → IfSome face (IsFaceOf h k f)
      → IfSome face (λ x. HasSides table x.inner.0)
  in_table table len None is = tt
  in_table table len (Some face) is = λ e at.
      (let on : face_of face.inner.0 ≡ f = ap face_of is.inner ∙ inner-face h k f in
      let there = is.there in
      omega (arith, len))

  pub few_sides : HasShape h → (face : Option RecordFace) → IfSome face (IsFaceOf h k f)
      → IfSome face (λ x. x.inner.0 < MOST_SIDES)
  few_sides shape None is = tt
  few_sides shape (Some face) is =
      let on : face_of face.inner.0 ≡ f = ap face_of is.inner ∙ inner-face h k f in
      let there = is.there in
      omega (arith, face_count-most h shape)

-- the same, if the face is there
module _ (h : Hierarchy) (k f : ℕ) (table : List (Option ℕ)) where
  there_tells : (face other : Option RecordFace) → IfSome face (IsFaceOf h k f)
      → (is_some face ≡ true → inner_side other ≡ mate_of h k f)
      → tells_face table face other ≡ true → is_some face ≡ true → TellsFace h table f
  there_tells None other is mate tells there = absurd (false≢true there)
  there_tells (Some face) other is mate tells there =
      face_tells h k f face is other (mate refl) table tells

  there_from : (face other : Option RecordFace) → IfSome face (IsFaceOf h k f)
      → (is_some face ≡ true → inner_side other ≡ mate_of h k f)
      → ((f < face_count h) → revealed_by h f ≡ Some k → TellsFace h table f)
      → tells_face table face other ≡ true
  there_from None other is mate all = refl
  there_from (Some face) other is mate all =
      tells_from h k f face is other (mate refl) table (all is.there is.own)

module _ (h : Hierarchy) (shape : HasShape h) (once : NoSideTwice (leaf_net h)) (T : ℕ → Bool)
    (front : IsFront h T) (k : ℕ) (split : T k ≡ true) (table : List (Option ℕ))
    (stored : AreStored h T table) where
  -- beside a side of the record's faces stands what is beyond it
  pub read_told : (e : ℕ) → e < 3 * face_count h → record_of h e ≡ Some k
      → beside_side table e ≡ beyond_of h T e
  read_told e l own =
      let shown = shown_record h T e k own ∙ split in
      (one_beyond h (shape_is_forest h shape) once T front e l shown).1 (beside_side table e)
      (stored.shown e l shown)

  pub tells_all : (left right : Option RecordFace) → is_some left ≡ is_some (record_at h k).left
      → IfSome left (IsFaceOf h k (first_face h k))
      → is_some right ≡ is_some (record_at h k).right
      → IfSome right (IsFaceOf h k (first_face h k + one_if (is_some (record_at h k).left)))
      → ((tells_face table left right && tells_face table right left) ≡ true) ↔ TellsAll h T k
  tells_all left right has_left left_is has_right right_is =
      let f = first_face h k in
      let g = first_face h k + one_if (is_some (record_at h k).left) in
      let left_told = left_mate h k left right has_left has_right right_is in
      let right_told = right_mate h k left right has_left has_right left_is in (
        λ both e l own.
            let parts = and_parts (tells_face table left right) (tells_face table right left)
            both in
            sym (read_told e l own) ∙ elim (which_face h (face_of e) k (omega arith) own) [
              | inl on ↦ there_tells h k f table left right left_is left_told parts.0
                  (has_left ∙ on.0) e on.1
              | inr on ↦ there_tells h k g table right left right_is right_told parts.1
                  (has_right ∙ on.0) e on.1
            ],
        λ tells.
            let all : (n : ℕ) → n < face_count h → revealed_by h n ≡ Some k
            → TellsFace h table n =
            λ n there own e at.
            (let e_own : record_of h e ≡ Some k = ap (revealed_by h) at ∙ own in
            let l : e < 3 * face_count h = omega arith in
            read_told e l e_own ∙ tells e l e_own) in
            and_from (tells_face table left right) (tells_face table right left)
            (there_from h k f table left right left_is left_told (all f))
            (there_from h k g table right left right_is right_told (all g)),
      )
