-- The faces under a node, by side numbers and as a list, and that a child has one.
use Rattle.std.proofs.Common.{◌≡◌, ℕ, suc, ◌*◌, ◌<◌, true, length, get_or, Some}
use Rattle.std.proofs.lemmas.Grind.{common_steps}
use Rattle.std.proofs.Common.{is_some, inl, inr, refl, sym, ◌∙◌, subst, arith}
use Rattle.std.proofs.lemmas.Bool.{cases_Bool, or_left, or_right, or_parts}
use Rattle.pm_base.specs.Sides.{face_of, next}
use Rattle.pm_base.proofs.Sides.{face_of-next}
use Rattle.pm_forest.specs.Forest.{Hierarchy, record_count, Holds, Makes}
use Rattle.pm_forest.specs.Faces.{faces_of, first_face, face_count, revealed_by, is_left}
use Rattle.pm_forest.specs.Faces.{corners_of, from_leaf, inner_of, no_face_corners}
use Rattle.pm_forest.specs.Rules.{HasShape, head_is_bad, presence_is_bad, head_fault}
use Rattle.pm_forest.proofs.Corners.{which_corner, corner_a, corner_b, corner_c}
use Rattle.pm_forest.proofs.FaceLists.{length-faces_of, corners_of-faces_of}
use Rattle.pm_forest.proofs.FaceNumbers.{first_face-mono, revealed-from}
use Rattle.pm_forest.proofs.Prefix.{cut}
use Rattle.pm_forest.proofs.ShapeLaws.{shape_of_faces, record_fits}
use Rattle.pm_forest.proofs.Sides.{inner-face}
use Rattle.pm_forest.proofs.UnitLaws.{passed}
use Rattle.pm_bounds.specs.Bounds.{has_corner_under}

module _ (h : Hierarchy) where
  -- a face with a side that begins under a node is under it
  pub under_from : (v e : ℕ) → Holds h v (from_leaf h e)
      → has_corner_under h v (corners_of h (face_of e)) ≡ true
  under_from v e held =
      grind (arith, common_steps, corner_a, corner_b, corner_c, or_left, or_right, which_corner)

  -- the list of faces has face f at f
  pub face_there : (f : ℕ) → f < face_count h
      → (get_or (faces_of h) f no_face_corners ≡ corners_of h f) × (f < length (faces_of h))
  face_there f l = let len = length-faces_of h in (sym (corners_of-faces_of h f l), omega arith)

no_presence : presence_is_bad 0 ≡ true
no_presence = refl

module _ (h : Hierarchy) (shape : HasShape h) where
  -- a record has a face
  has_face : (k : ℕ) → k < record_count h → first_face h k < first_face h (suc k)
  unfolding head_fault head_is_bad first_face
  has_face k l =
      grind (
        arith,
        common_steps,
        is_some,
        no_presence,
        or_parts,
        passed,
        cut h k,
        record_fits h shape k l,
      )

  -- a side of its first face begins under t, and one under u
  pub child_faces : (k v : ℕ) → k < record_count h → Makes h k v → (e : ℕ) × (e < 3 * face_count h)
      × Holds h v (from_leaf h e)
  child_faces k v l makes =
      let f = first_face h k in
      let more = has_face k l in
      let last = first_face-mono h (suc k) (record_count h) l in
      let own : revealed_by h f ≡ Some k = revealed-from h f k l (omega arith) more in
      let i = inner_of h k f in
      let at = inner-face h k f in
      let at_next : face_of (next i) ≡ f = face_of-next i ∙ at in
      elim (cases_Bool (is_left h k f)) [
        | inl left ↦
            let ends = (shape_of_faces h shape).left f k (omega arith) own left in
            elim makes [
              | inl is ↦ (i, omega arith, subst (λ w. Holds h w (from_leaf h i)) (sym is) ends.0)
              | inr is ↦ (
                next i,
                omega arith,
                subst (λ w. Holds h w (from_leaf h (next i)))
                    (sym is) ends.1,
              )
            ]
        | inr right ↦
            let ends = (shape_of_faces h shape).right f k (omega arith) own right in
            elim makes [
              | inl is ↦ (
                next i,
                omega arith,
                subst (λ w. Holds h w (from_leaf h (next i)))
                    (sym is) ends.1,
              )
              | inr is ↦ (i, omega arith, subst (λ w. Holds h w (from_leaf h i)) (sym is) ends.0)
            ]
      ]
