-- The table of the inner sides of the faces.
use Rattle.std.proofs.Common.{◌≡◌, ℕ, ◌+◌, ◌*◌, ◌<◌, cond, Bool, true, false, List, [], ◌∷◌, ◌++◌}
use Rattle.std.proofs.Common.{Option, Some, None, is_some, length, refl}
use Rattle.std.proofs.lemmas.Grind.{common_steps}
use Rattle.std.proofs.Common.{slice_index_or, inl, inr, sym, ap, ◌∙◌, subst, arith}
use Rattle.std.proofs.Common.{length-append}
use Rattle.std.proofs.Math.ListN.{get_or-append}
use Rattle.std.proofs.Math.Seq.{get_or-append_seam}
use Rattle.std.proofs.lemmas.List.{append-nil}
use Rattle.std.proofs.lemmas.Bool.{cases_lt, cond-true, cond-false}
use Rattle.pm_base.specs.Counts.{one_if}
use Rattle.pm_forest.specs.declared.parts.Face.{Face}
use Rattle.pm_forest.specs.declared.parts.NewFace.{NewFace}
use Rattle.pm_forest.specs.Forest.{Hierarchy, record_at, record_count, t_of, u_of, holds}
use Rattle.pm_forest.specs.Faces.{first_face, revealed_by, inner_of, is_left, corners_of, from_leaf}
use Rattle.pm_forest.proofs.Corners.{corner_a, corner_b}
use Rattle.pm_forest.proofs.FaceNumbers.{first_face-mono}
use Rattle.pm_forest.proofs.HierarchyLaws.{revealed-base}
use Rattle.pm_forest.proofs.ShapeLaws.{left_from, left_corners, right_corners}
use Rattle.pm_sides.specs.Tables.{AreInnerCorners, inner_at, corner_under, corners_under}
use Rattle.pm_sides.proofs.FirstLaws.{firsts_begin, next_first, left_own, right_own}
use Rattle.pm_sides.proofs.FaceLaws.{right_number, right_from}

-- One more entry.
pub inners_none : (h : Hierarchy) → AreInnerCorners h 0 []
inners_none h = grind (arith, common_steps)

pub entry_old : (n x : ℕ) (xs : List ℕ) → length xs ≡ n → (f : ℕ) → f < n
    → slice_index_or (xs ++ x ∷ []) f 0 ≡ slice_index_or xs f 0
entry_old n x xs len f l = get_or-append xs (x ∷ []) 0 f (omega (arith, len))

pub entry_new : (n x : ℕ) (xs : List ℕ) → length xs ≡ n → slice_index_or (xs ++ x ∷ []) n 0 ≡ x
entry_new n x xs len =
    ap (λ i. slice_index_or (xs ++ x ∷ []) i 0) (sym len) ∙ get_or-append_seam xs x [] 0

pub inners_go_on : (h : Hierarchy) (n x : ℕ) (xs : List ℕ) → AreInnerCorners h n xs → x < 3
    → 3 * n + x ≡ inner_at h n (revealed_by h n) → AreInnerCorners h (n + 1) (xs ++ x ∷ [])
inners_go_on h n x xs so_far few is = record {
  len = length-append xs (x ∷ []) ∙ ap (λ m. m + 1) so_far.len;
  few = λ f l. elim (cases_lt f n) [
    | inl a ↦ subst (λ c. c < 3) (sym (entry_old n x xs so_far.len f a)) (so_far.few f a)
    | inr a ↦ grind (arith, common_steps, entry_new, slice_index_or)
  ];
  each = λ f l. elim (cases_lt f n) [
    | inl a ↦ ap (λ c. 3 * f + c) (entry_old n x xs so_far.len f a) ∙ so_far.each f a
    | inr a ↦ grind (arith, common_steps, entry_new, slice_index_or)
  ];
}

pub inner_few : (h : Hierarchy) (n : ℕ) (xs : List ℕ) → AreInnerCorners h n xs → (f : ℕ) → f < n
    → slice_index_or xs f 0 < 3
inner_few h n xs inners = inners.few

pub inner_read : (h : Hierarchy) (n : ℕ) (xs : List ℕ) → AreInnerCorners h n xs → (k f : ℕ) → f < n
    → revealed_by h f ≡ Some k → 3 * f + slice_index_or xs f 0 ≡ inner_of h k f
inner_read h n xs inners k f l own = inners.each f l ∙ ap (inner_at h f) own

-- The base faces.
pub inners_base : (h : Hierarchy) (n : ℕ) (xs : List ℕ) → AreInnerCorners h n xs
    → n < length h.bases → AreInnerCorners h (n + 1) (xs ++ 0 ∷ [])
inners_base h n xs so_far l =
    let most = first_face-mono h 0 (record_count h) (omega arith) in
    let first = firsts_begin h in
    inners_go_on h n 0 xs so_far (omega arith)
    (omega arith ∙ ap (inner_at h n) (sym ((revealed-base h n (omega arith)).1 l)))

corner_added : (a b : Bool) (n : ℕ) → cond a n (cond b (n + 1) (n + 2)) ≡ n + cond a 0 (cond b 1 2)
corner_added true b n = omega arith
corner_added false true n = refl
corner_added false false n = refl

-- The inner side of a record's face begins at the first corner under t in a left face, and under u
-- in a right one.
module _ (h : Hierarchy) (k : ℕ) (l : k < record_count h) where
  abbrev node : ℕ → ℕ
  node f = cond (is_left h k f) (t_of h k) (u_of h k)

  inner-corner : (f : ℕ) → inner_of h k f ≡ 3 * f + corner_under h (node f) (corners_of h f)
  unfolding inner_of
  inner-corner f =
      let v = node f in
      let second = from_leaf h (3 * f + 1) in
      corner_added (holds h v (from_leaf h (3 * f))) (holds h v second) (3 * f)
      ∙ ap (λ x. 3 * f + cond (holds h v x) 0 (cond (holds h v second) 1 2)) (corner_a h f).0
      ∙ ap (λ x. 3 * f + cond (holds h v (corners_of h f).a) 0 (cond (holds h v x) 1 2))
      (corner_b h f).0

  corner-few : (v : ℕ) (face : Face) → corner_under h v face < 3
  corner-few v face = grind (arith, common_steps, cond-false, cond-true)

  one_more : (f : ℕ) (n : NewFace) (xs : List ℕ) → revealed_by h f ≡ Some k
      → corners_of h f ≡ n.face → AreInnerCorners h f xs
      → AreInnerCorners h (f + 1) (xs ++ corner_under h (node f) n.face ∷ [])
  one_more f n xs own is so_far =
      inners_go_on h f (corner_under h (node f) n.face) xs so_far (corner-few (node f) n.face)
      (ap (λ c. 3 * f + corner_under h (node f) c) (sym is) ∙ sym (inner-corner f)
      ∙ ap (inner_at h f) (sym own))

  none_more : (n : ℕ) (xs : List ℕ) → AreInnerCorners h n xs → AreInnerCorners h (n + 0) (xs ++ [])
  none_more n xs so_far =
      let same : n ≡ n + 0 = omega arith in
      subst (λ m. AreInnerCorners h m (xs ++ [])) same
      (subst (AreInnerCorners h n) (sym (append-nil xs)) so_far)

  left_corner : (o : Option NewFace) → (record_at h k).left ≡ o → (xs : List ℕ)
      → AreInnerCorners h (first_face h k) xs
      → AreInnerCorners h (first_face h k + one_if (is_some o)) (xs ++ corners_under h (t_of h k) o)
  left_corner None is xs so_far = none_more (first_face h k) xs so_far
  left_corner (Some n) is xs so_far =
      let f = first_face h k in
      let there = ap is_some is in
      let left = left_from h k f there refl in
      let own = left_own h k l there in
      subst (λ v. AreInnerCorners h (f + 1) (xs ++ corner_under h v n.face ∷ []))
      (cond-true (is_left h k f) (t_of h k) (u_of h k) left)
      (one_more f n xs own (left_corners h f k n own left is) so_far)

  right_corner : (o : Option NewFace) → (record_at h k).right ≡ o → (xs : List ℕ)
      → AreInnerCorners h (right_number h k) xs
      → AreInnerCorners h (right_number h k + one_if (is_some o))
      (xs ++ corners_under h (u_of h k) o)
  right_corner None is xs so_far = none_more (right_number h k) xs so_far
  right_corner (Some n) is xs so_far =
      let f = right_number h k in
      let right = right_from h k in
      let own = right_own h k l (ap is_some is) in
      subst (λ v. AreInnerCorners h (f + 1) (xs ++ corner_under h v n.face ∷ []))
      (cond-false (is_left h k f) (t_of h k) (u_of h k) right)
      (one_more f n xs own (right_corners h f k n own right is) so_far)

  pub inners_record : (xs : List ℕ) → AreInnerCorners h (first_face h k) xs
      → AreInnerCorners h (first_face h (k + 1))
      ((xs ++ corners_under h (t_of h k) (record_at h k).left)
      ++ corners_under h (u_of h k) (record_at h k).right)
  inners_record xs so_far =
      let left = (record_at h k).left in
      let right = (record_at h k).right in
      subst (λ n. AreInnerCorners h n
      ((xs ++ corners_under h (t_of h k) left) ++ corners_under h (u_of h k) right))
      (omega (arith, next_first h k))
      (right_corner right refl (xs ++ corners_under h (t_of h k) left)
      (left_corner left refl xs so_far))
