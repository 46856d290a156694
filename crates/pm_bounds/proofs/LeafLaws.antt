-- The radii and boxes of leaves, when one face more is looked at.
use Rattle.std.proofs.Common.{◌≡◌, ℕ, ◌+◌, ◌<◌, ◌≤◌, max, Bool, cond, List, [], ◌∷◌, ◌++◌, map}
use Rattle.std.proofs.Common.{take, None, Some, Option, inl, inr, refl, sym, ap, ◌∙◌, arith}
use Rattle.std.proofs.lemmas.Grind.{common_steps}
use Rattle.std.specs.List.{filter}
use Rattle.std.proofs.Math.Seq.{take-length}
use Rattle.std.proofs.lemmas.Bool.{cases_Bool, cond-true, cond-false}
use Rattle.std.proofs.lemmas.List.{map-append, take_more}
use Rattle.pm_base.specs.Geometry.{dist2_of}
use Rattle.pm_base.specs.Rounded.{root_up}
use Rattle.pm_base.proofs.Root.{root_up_is, root_up_only}
use Rattle.pm_forest.specs.Places.{place_of_node}
use Rattle.pm_forest.specs.declared.parts.Face.{Face}
use Rattle.pm_forest.specs.Forest.{Hierarchy, leaf_count}
use Rattle.pm_forest.specs.Faces.{faces_of, face_count, corners_of}
use Rattle.pm_forest.specs.Rules.{HasShape}
use Rattle.pm_forest.specs.Tables.{leaf_node_of}
use Rattle.pm_forest.proofs.FaceLists.{length-faces_of, corners_of-faces_of}
use Rattle.pm_forest.specs.Meshes.{leaf_place}
use Rattle.pm_bounds.specs.declared.leaves.LeafBounds.{LeafBounds}
use Rattle.pm_bounds.specs.declared.normal_box.NormalBox.{NormalBox}
use Rattle.pm_bounds.specs.Boxes.{box_at, join, box_of}
use Rattle.pm_bounds.specs.Bounds.{greatest, reach, has_corner_under, normal_of, leaf_radius}
use Rattle.pm_bounds.specs.Bounds.{box_under}
use Rattle.pm_bounds.specs.Leaves.{bare_leaf_at, widened_by, is_leaf_corner, square_reach}
use Rattle.pm_bounds.proofs.BoxLaws.{box_of-more}
use Rattle.pm_bounds.proofs.Nodes.{own_faces}

-- the greatest of a list with one number more, put last
max_shift : (x y z : ℕ) → max x (max y z) ≡ max (max x y) z
max_shift x y z = omega arith

pub greatest-more : (ns : List ℕ) (n : ℕ) → greatest (ns ++ n ∷ []) ≡ max (greatest ns) n
greatest-more [] n = omega arith
greatest-more (m ∷ ns) n = ap (max m) (greatest-more ns n) ∙ max_shift m (greatest ns) n

-- what passes a test, with one item more
pub filter-more : {X : Type 0} (p : X → Bool) (xs : List X) (x : X)
    → filter p (xs ++ x ∷ []) ≡ cond (p x) (filter p xs ++ x ∷ []) (filter p xs)
filter-more p [] x = refl
filter-more p (y ∷ ys) x = grind (arith, common_steps, cond-false, cond-true, filter-more p ys x)

-- what passes one of two tests that say the same
pub filter_same : {X : Type 0} (p q : X → Bool) (xs : List X) → ((x : X) → p x ≡ q x)
    → filter p xs ≡ filter q xs
filter_same p q [] same = refl
filter_same p q (x ∷ xs) same = rw (same x, filter_same p q xs same) refl

-- The first n faces.
abbrev pub first_faces : Hierarchy → ℕ → List Face
first_faces h n = take n (faces_of h)

-- The square of a leaf, and the box of a node, by these faces alone.
unfoldable pub square_in : Hierarchy → ℕ → ℕ → ℕ
square_in h n v =
    greatest (map (square_reach h v) (filter (has_corner_under h v) (first_faces h n)))

unfoldable pub box_in : Hierarchy → ℕ → ℕ → Option NormalBox
box_in h n v = box_of (map (normal_of h) (filter (has_corner_under h v) (first_faces h n)))

module _ (h : Hierarchy) where
  one_more : (n : ℕ) → n < face_count h → first_faces h (n + 1) ≡ first_faces h n ++ corners_of h n
      ∷ []
  one_more n l = grind (arith, common_steps, corners_of-faces_of, length-faces_of, take_more)

  square_in-none : (v : ℕ) → square_in h 0 v ≡ 0
  unfolding square_in
  square_in-none v = refl

  square_in-more : (n v : ℕ) → n < face_count h →
      square_in h (n + 1) v
      ≡ cond (has_corner_under h v (corners_of h n))
      (max (square_in h n v) (square_reach h v (corners_of h n))) (square_in h n v)
  unfolding square_in
  square_in-more n v l =
      let f = corners_of h n in
      let fs = first_faces h n in
      let all : filter (has_corner_under h v) (first_faces h (n + 1))
      ≡ cond (has_corner_under h v f) (filter (has_corner_under h v) fs ++ f ∷ [])
      (filter (has_corner_under h v) fs) =
      ap (filter (has_corner_under h v)) (one_more n l) ∙ filter-more (has_corner_under h v) fs f in
      elim (cases_Bool (has_corner_under h v f)) [
        | inl e ↦ grind (arith, common_steps, cond-true, greatest-more, map-append)
        | inr e ↦ ap (λ l. greatest (map (square_reach h v) l)) (all ∙ cond-false _ _ _ e)
            ∙ sym (cond-false _ _ _ e)
      ]

  box_in-none : (v : ℕ) → box_in h 0 v ≡ None
  unfolding box_in
  box_in-none v = refl

  box_in-more : (n v : ℕ) → n < face_count h →
      box_in h (n + 1) v
      ≡ cond (has_corner_under h v (corners_of h n))
      (join (box_in h n v) (Some (box_at (normal_of h (corners_of h n))))) (box_in h n v)
  unfolding box_in
  box_in-more n v l =
      let f = corners_of h n in
      let fs = first_faces h n in
      let all : filter (has_corner_under h v) (first_faces h (n + 1))
      ≡ cond (has_corner_under h v f) (filter (has_corner_under h v) fs ++ f ∷ [])
      (filter (has_corner_under h v) fs) =
      ap (filter (has_corner_under h v)) (one_more n l) ∙ filter-more (has_corner_under h v) fs f in
      elim (cases_Bool (has_corner_under h v f)) [
        | inl e ↦ grind (arith, common_steps, box_of-more, cond-true, map-append)
        | inr e ↦ ap (λ l. box_of (map (normal_of h) l)) (all ∙ cond-false _ _ _ e)
            ∙ sym (cond-false _ _ _ e)
      ]

-- The bounds of leaf l by these faces alone.
abbrev pub seen_at : Hierarchy → ℕ → ℕ → LeafBounds
seen_at h n l = record {
  place = leaf_place h l;
  square = square_in h n (leaf_node_of h l);
  normals = box_in h n (leaf_node_of h l);
}

pub seen_at-none : (h : Hierarchy) (l : ℕ) → seen_at h 0 l ≡ bare_leaf_at (leaf_place h l)
seen_at-none h l = rw (square_in-none h (leaf_node_of h l), box_in-none h (leaf_node_of h l)) refl

pub seen_at-more : (h : Hierarchy) → HasShape h → (n l : ℕ) → n < face_count h → l < leaf_count h →
    seen_at h (n + 1) l
    ≡ cond (is_leaf_corner l (corners_of h n)) (widened_by h l (corners_of h n) (seen_at h n l))
    (seen_at h n l)
seen_at-more h shape n l below leaf =
    grind (arith, common_steps, box_in-more, cond-false, cond-true, own_faces, square_in-more)

-- All faces.
all_faces : (h : Hierarchy) → first_faces h (face_count h) ≡ faces_of h
all_faces h = ap (λ n. take n (faces_of h)) (sym (length-faces_of h)) ∙ take-length (faces_of h)

-- The root of the greatest number is the greatest of the roots.
root_zero : root_up 0 ≡ 0
root_zero = sym (root_up_only 0 0 (omega arith) (λ m h. omega arith))

root_grows : (a b : ℕ) → a ≤ b → root_up a ≤ root_up b
root_grows a b l = (root_up_is a).least (root_up b) (omega (arith, (root_up_is b).enough))

root_max : (a b : ℕ) → root_up (max a b) ≡ max (root_up a) (root_up b)
root_max a b = grind (arith, common_steps, root_grows)

root_greatest : (ns : List ℕ) → root_up (greatest ns) ≡ greatest (map root_up ns)
root_greatest [] = root_zero
root_greatest (n ∷ ns) = root_max n (greatest ns) ∙ ap (max (root_up n)) (root_greatest ns)

reach_root : (h : Hierarchy) (v : ℕ) (f : Face) → root_up (square_reach h v f) ≡ reach h v f
unfolding reach square_reach
reach_root h v f =
    let d = λ (x : ℕ). dist2_of (place_of_node h v) (leaf_place h x) in
    root_greatest (d f.a ∷ d f.b ∷ d f.c ∷ [])

root_of_reaches : (h : Hierarchy) (v : ℕ) (fs : List Face)
    → root_up (greatest (map (square_reach h v) fs)) ≡ greatest (map (reach h v) fs)
root_of_reaches h v [] = root_zero
root_of_reaches h v (f ∷ fs) =
    grind (arith, common_steps, reach_root, root_max, root_of_reaches h v fs)

pub square_in-all : (h : Hierarchy) (v : ℕ) → root_up (square_in h (face_count h) v)
    ≡ leaf_radius h v
unfolding square_in
square_in-all h v =
    root_of_reaches h v (filter (has_corner_under h v) (first_faces h (face_count h)))
    ∙ ap (λ fs. greatest (map (reach h v) (filter (has_corner_under h v) fs))) (all_faces h)

pub box_in-all : (h : Hierarchy) (v : ℕ) → box_in h (face_count h) v ≡ box_under h v
unfolding box_in box_under
box_in-all h v =
    ap (λ fs. box_of (map (normal_of h) (filter (has_corner_under h v) fs))) (all_faces h)
