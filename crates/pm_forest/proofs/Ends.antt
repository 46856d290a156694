-- The ends of the sides of a record's face: the inner side runs between leaves below t and u, and
-- the third corner is outside s.
use Rattle.std.proofs.Common.{◌≡◌, ℕ, ◌*◌, ◌<◌, Bool, false, Some, inl, inr, sym, ap, ◌∙◌, arith}
use Rattle.std.proofs.lemmas.Grind.{common_steps}
use Rattle.std.proofs.lemmas.Bool.{cases_Bool}
use Rattle.pm_base.specs.Sides.{face_of, next}
use Rattle.pm_base.proofs.Sides.{face_of-next}
use Rattle.pm_forest.specs.Forest.{Hierarchy, s_of, t_of, u_of, holds, Holds}
use Rattle.pm_forest.specs.Fronts.{ancestor_of}
use Rattle.pm_forest.specs.Faces.{face_count, revealed_by, is_left, from_leaf, to_leaf, inner_of}
use Rattle.pm_forest.specs.Faces.{IsForest}
use Rattle.pm_forest.proofs.Kept.{joined}
use Rattle.pm_forest.proofs.Sides.{inner-face}
use Rattle.pm_forest.proofs.FaceNumbers.{record-lt}

module _ (h : Hierarchy) (shape : IsForest h) where
  -- One end of the inner side is below t and the other below u.
  pub data InnerEnds (k i : ℕ) : Type 0 where
    t_first : Holds h (t_of h k) (from_leaf h i) → Holds h (u_of h k) (to_leaf h i) → InnerEnds k i
    u_first : Holds h (u_of h k) (from_leaf h i) → Holds h (t_of h k) (to_leaf h i) → InnerEnds k i

  pub inner-lt : (k e : ℕ) → e < 3 * face_count h → inner_of h k (face_of e) < 3 * face_count h
  inner-lt k e l = let f = inner-face h k (face_of e) in omega arith

  pub next-lt : (e : ℕ) → e < 3 * face_count h → next e < 3 * face_count h
  next-lt e l = let f = face_of-next e in omega arith

  pub inner_ends : (k f : ℕ) → f < face_count h → revealed_by h f ≡ Some k
      → InnerEnds k (inner_of h k f)
  inner_ends k f l r =
      elim (cases_Bool (is_left h k f)) [
        | inl a ↦ (let p = shape.faces.left f k l r a in t_first p.0 p.1)
        | inr a ↦ (let p = shape.faces.right f k l r a in u_first p.0 p.1)
      ]

  pub third_outside : (k f : ℕ) → f < face_count h → revealed_by h f ≡ Some k
      → holds h (s_of h k) (from_leaf h (next (next (inner_of h k f)))) ≡ false
  third_outside k f l r = grind (arith, common_steps)

  -- While the record isn't split, the two ends of its face's inner side have one ancestor.
  pub inner-joined : (T : ℕ → Bool) (k f : ℕ) → f < face_count h → revealed_by h f ≡ Some k
      → T k ≡ false → let i =
      inner_of h k f in ancestor_of h T (from_leaf h i) ≡ ancestor_of h T (to_leaf h i)
  inner-joined T k f l r e =
      let i = inner_of h k f in
      let g = inner-face h k f in
      let i_lt : i < 3 * face_count h = omega arith in
      let a_lt = shape.faces.leaves i i_lt in
      let b_lt = shape.faces.leaves (next i) (next-lt i i_lt) in
      let k_lt = record-lt h i k i_lt (ap (λ x. revealed_by h x) g ∙ r) in
      elim (inner_ends k f l r) [
        | t_first p q ↦ joined h shape.forest T k (from_leaf h i) (to_leaf h i) k_lt a_lt b_lt p q e
        | u_first p q ↦
            sym (joined h shape.forest T k (to_leaf h i) (from_leaf h i) k_lt b_lt a_lt q p e)
      ]
