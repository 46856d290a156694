-- What lies within a node's error, radius and box.
use Rattle.std.proofs.Common.{◌≡◌, ℕ, zero, suc, ◌+◌, ◌*◌, ◌<◌, ◌≤◌, true, get_or, None, Some, ◌⊎◌}
use Rattle.std.proofs.Common.{inl, inr, refl, sym, ap, ◌∙◌, subst, arith}
use Rattle.std.proofs.lemmas.Grind.{common_steps}
use Rattle.std.proofs.lemmas.Nat.{mul-le}
use Rattle.pm_base.specs.Place.{Place}
use Rattle.pm_base.specs.Geometry.{Direction, dist2_of}
use Rattle.pm_base.specs.Rounded.{distance_of}
use Rattle.pm_base.specs.Sides.{face_of}
use Rattle.pm_base.proofs.Root.{root_up_is}
use Rattle.pm_base.proofs.Lengths.{distances_le}
use Rattle.pm_base.proofs.Search.{option_cases}
use Rattle.pm_forest.specs.declared.parts.Face.{Face}
use Rattle.pm_forest.specs.Forest.{Hierarchy, record_count, node_count, s_of, t_of, u_of, Holds}
use Rattle.pm_forest.specs.Forest.{Makes, splitter_of}
use Rattle.pm_forest.specs.Faces.{faces_of, face_count, corners_of, from_leaf, no_face_corners}
use Rattle.pm_forest.specs.Places.{place_of_node}
use Rattle.pm_forest.specs.Rules.{HasShape}
use Rattle.pm_forest.specs.Tables.{leaf_node_of}
use Rattle.pm_forest.proofs.Corners.{which_corner, corner_a, corner_b, corner_c}
use Rattle.pm_forest.proofs.HierarchyLaws.{unsplit-single}
use Rattle.pm_forest.proofs.LeafNodes.{leaf_node-unsplit}
use Rattle.pm_forest.proofs.Nodes.{splitter_of-splits, holds-u_from_s}
use Rattle.pm_forest.proofs.ShapeLaws.{shape_of_nodes}
use Rattle.pm_forest.specs.Meshes.{leaf_place}
use Rattle.pm_bounds.specs.declared.normal_box.NormalBox.{NormalBox}
use Rattle.pm_bounds.specs.Boxes.{joined, join}
use Rattle.pm_bounds.specs.Bounds.{normal_of, has_corner_under, reach, leaf_radius, over_children}
use Rattle.pm_bounds.specs.Bounds.{error_of, radius_of, box_under, normal_box_of}
use Rattle.pm_bounds.specs.Laws.{Grows, IsIn, IsNested}
use Rattle.pm_bounds.proofs.MeasuredFaces.{dist2-same}
use Rattle.pm_bounds.proofs.FacesUnder.{under_from, face_there, child_faces}
use Rattle.pm_bounds.proofs.ListLaws.{greatest_above, IsInSome, min_left, min_right, max_left}
use Rattle.pm_bounds.proofs.ListLaws.{max_right, same_z, ≤ℤ_by, box_above}
use Rattle.pm_bounds.proofs.GrownLaws.{DoneFrom, later, grown_at_leaf, grown_at_split}
use Rattle.pm_bounds.proofs.GrownLaws.{box_under-split}

-- Distances

pub near : (p q : Place) → dist2_of p q ≤ distance_of p q * distance_of p q
near p q = (root_up_is (dist2_of p q)).enough

once : (n a : ℕ) → n ≤ a * a → n ≤ a * a * 1
once n a h = omega arith

within : (n d r s : ℕ) → n ≤ (d + r) * (d + r) * 1 → r + d ≤ s → n ≤ s * s
within n d r s p q = omega (arith, mul-le (d + r) (d + r) s s (omega arith) (omega arith))

squares : (n d r : ℕ) → n ≤ d * d → d ≤ r → n ≤ r * r
squares n d r h l = omega (arith, mul-le d d r r l l)

-- within r of c, so within s of p
pub by_way : (p c x : Place) (d r s : ℕ) → dist2_of p c ≤ d * d → dist2_of c x ≤ r * r → r + d ≤ s
    → dist2_of p x ≤ s * s
by_way p c x d r s h k l =
    within (dist2_of p x) d r s
    (distances_le p c x d r 1 (once (dist2_of p c) d h) (once (dist2_of c x) r k)) l

-- How far a corner of a face may be

reach_corner : (h : Hierarchy) (v e : ℕ)
    → distance_of (place_of_node h v) (leaf_place h (from_leaf h e)) ≤ reach h v
    (corners_of h (face_of e))
unfolding reach
reach_corner h v e = grind (arith, common_steps, corner_a, corner_b, corner_c, which_corner)

module _ (h : Hierarchy) (shape : HasShape h) where
  -- From the leaves up: what holds of each node of one leaf, and of each other node where it holds
  -- of its children.
  up_in : (P : ℕ → Type 0) → ((v : ℕ) → v < node_count h → splitter_of h v ≡ None → P v)
      → ((k : ℕ) → k < record_count h → P (t_of h k) → P (u_of h k) → P (s_of h k)) →
      (n k v : ℕ) → record_count h ≤ n + k → DoneFrom h k v → v < node_count h → P v
  up_in P leaf split zero k v enough low l =
      elim (option_cases (splitter_of h v)) [
        | inl none ↦ leaf v l none
        | inr (j, e) ↦ (let p = (splitter_of-splits h j v e).1 in let q = low j e in
            absurd (omega arith))
      ]
  up_in P leaf split (suc n) k v enough low l =
      elim (option_cases (splitter_of h v)) [
        | inl none ↦ leaf v l none
        | inr (j, e) ↦
            let p = splitter_of-splits h j v e in
            let m = p.1 in
            let q = low j e in
            let t = up_in P leaf split n (suc j) (t_of h j) (omega arith)
            (λ i g. later h (shape_of_nodes h shape) j i (t_of h j) m (omega arith) g)
            (omega arith) in
            let u = up_in P leaf split n (suc j) (u_of h j) (omega arith)
            (λ i g. later h (shape_of_nodes h shape) j i (u_of h j) m (omega arith) g)
            (omega arith) in
            subst P p.0 (split j m t u)
      ]

  pub up_from_leaves : (P : ℕ → Type 0)
      → ((v : ℕ) → v < node_count h → splitter_of h v ≡ None → P v)
      → ((k : ℕ) → k < record_count h → P (t_of h k) → P (u_of h k) → P (s_of h k)) →
      (v : ℕ) → v < node_count h → P v
  up_from_leaves P leaf split v l =
      up_in P leaf split (record_count h) 0 v (omega arith) (λ j e. omega arith) l

  pub errors_grow : Grows h (λ v. 0) (error_of h)
  unfolding error_of
  errors_grow =
      grind (arith, common_steps, grown_at_leaf, grown_at_split, shape_of_nodes, unsplit-single)

  pub radii_grow : Grows h (leaf_radius h) (radius_of h)
  unfolding radius_of
  radii_grow =
      grind (arith, common_steps, grown_at_leaf, grown_at_split, shape_of_nodes, unsplit-single)

  own_radius : (v : ℕ) → splitter_of h v ≡ None → radius_of h v ≡ leaf_radius h v
  unfolding radius_of
  own_radius v none = grown_at_leaf h (shape_of_nodes h shape) (leaf_radius h) v none

  -- the greater of the two is at least each
  by_t : (number : ℕ → ℕ) (k : ℕ) → number (s_of h k) ≡ over_children h number k
      → number (t_of h k) + distance_of (place_of_node h (s_of h k))
      (place_of_node h (t_of h k)) ≤ number (s_of h k)
  by_t number k e = omega arith

  by_u : (number : ℕ → ℕ) (k : ℕ) → number (s_of h k) ≡ over_children h number k
      → number (u_of h k) + distance_of (place_of_node h (s_of h k))
      (place_of_node h (u_of h k)) ≤ number (s_of h k)
  by_u number k e = omega arith

  -- a number of a child, and its distance, are at most that of the parent
  pub child_number : (leaf number : ℕ → ℕ) → Grows h leaf number → (k v : ℕ) → k < record_count h
      → Makes h k v →
      number v + distance_of (place_of_node h (s_of h k)) (place_of_node h v) ≤ number (s_of h k)
  child_number leaf number grows k v l makes = grind (arith, common_steps, by_t, by_u)

  -- within the number of a child, so within that of the parent
  passes_up : (leaf number : ℕ → ℕ) → Grows h leaf number → (k v : ℕ) → k < record_count h
      → Makes h k v → (q : Place) →
      dist2_of (place_of_node h v) q ≤ number v * number v
      → dist2_of (place_of_node h (s_of h k)) q ≤ number (s_of h k) * number (s_of h k)
  passes_up leaf number grows k v l makes q close =
      let s = place_of_node h (s_of h k) in
      let c = place_of_node h v in
      by_way s c q (distance_of s c) (number v) (number (s_of h k)) (near s c) close
      (child_number leaf number grows k v l makes)

  -- a leaf under a node that is split is under one of its children
  pub child_of_leaf : (k x : ℕ) → k < record_count h → Holds h (s_of h k) x
      → Holds h (t_of h k) x ⊎ Holds h (u_of h k) x
  child_of_leaf k x l held = grind (arith, common_steps, holds-u_from_s, shape_of_nodes)

  pub leaves_covered : (v x : ℕ) → v < node_count h → Holds h v x
      → dist2_of (place_of_node h v) (leaf_place h x) ≤ error_of h v * error_of h v
  leaves_covered v x l =
      up_from_leaves (λ w. Holds h w x
      → dist2_of (place_of_node h w) (leaf_place h x) ≤ error_of h w * error_of h w)
      (λ w m none held.
      let is : leaf_node_of h x ≡ w =
      leaf_node-unsplit h (shape_of_nodes h shape) w x m none held in
      let zero_way : dist2_of (place_of_node h w) (leaf_place h x) ≡ 0 =
      ap (λ n. dist2_of (place_of_node h w) (place_of_node h n)) is
      ∙ dist2-same (place_of_node h w) in
      omega arith)
      (λ k m t u held. elim (child_of_leaf k x m held) [
        | inl a ↦ passes_up (λ w. 0) (error_of h) errors_grow k (t_of h k) m (inl refl)
            (leaf_place h x) (t a)
        | inr a ↦ passes_up (λ w. 0) (error_of h) errors_grow k (u_of h k) m (inr refl)
            (leaf_place h x) (u a)
      ])
      v l

  pub corners_covered : (v under e : ℕ) → v < node_count h → e < 3 * face_count h
      → face_of under ≡ face_of e → Holds h v (from_leaf h under) →
      dist2_of (place_of_node h v) (leaf_place h (from_leaf h e)) ≤ radius_of h v * radius_of h v
  corners_covered v under e l side same =
      let q = leaf_place h (from_leaf h e) in
      up_from_leaves (λ w. Holds h w (from_leaf h under)
      → dist2_of (place_of_node h w) q ≤ radius_of h w * radius_of h w)
      (λ w m none held.
      let f = face_of e in
      let is_face : f < face_count h = omega arith in
      let there = face_there h f is_face in
      let p : has_corner_under h w (corners_of h f) ≡ true =
      subst (λ g. has_corner_under h w (corners_of h g) ≡ true) same
      (under_from h w under held) in
      let p' : has_corner_under h w (get_or (faces_of h) f no_face_corners) ≡ true =
      subst (λ (g : Face). has_corner_under h w g ≡ true) (sym there.0) p in
      let most = subst (λ (g : Face). reach h w g ≤ leaf_radius h w) there.0
      (greatest_above (reach h w) (has_corner_under h w) (faces_of h) f no_face_corners there.1
      p') in
      let far = reach_corner h w e in
      let radius = own_radius w none in
      squares (dist2_of (place_of_node h w) q) (distance_of (place_of_node h w) q) (radius_of h w)
      (near (place_of_node h w) q) (omega arith))
      (λ k m t u held. elim (child_of_leaf k (from_leaf h under) m held) [
        | inl a ↦ passes_up (leaf_radius h) (radius_of h) radii_grow k (t_of h k) m (inl refl) q
            (t a)
        | inr a ↦ passes_up (leaf_radius h) (radius_of h) radii_grow k (u_of h k) m (inr refl) q
            (u a)
      ])
      v l

  boxed : (v e : ℕ) → e < 3 * face_count h → Holds h v (from_leaf h e)
      → IsInSome (normal_of h (corners_of h (face_of e))) (box_under h v)
  unfolding box_under
  boxed v e l held =
      let f = face_of e in
      let is_face : f < face_count h = omega arith in
      let there = face_there h f is_face in
      let p : has_corner_under h v (get_or (faces_of h) f no_face_corners) ≡ true =
      subst (λ (g : Face). has_corner_under h v g ≡ true) (sym there.0)
      (under_from h v e held) in
      subst (λ (g : Face). IsInSome (normal_of h g) (box_under h v)) there.0
      (box_above (normal_of h) (has_corner_under h v) (faces_of h) f no_face_corners there.1 p)

  pub normals_boxed : (v e : ℕ) → e < 3 * face_count h → Holds h v (from_leaf h e)
      → IsIn (normal_of h (corners_of h (face_of e))) (normal_box_of h v)
  normals_boxed v e l held = grind (arith, common_steps, boxed)

  -- a child has a box, with a normal in it
  child_box : (k v : ℕ) → k < record_count h → Makes h k v
      → (b : NormalBox) × (box_under h v ≡ Some b) × ((n : Direction) × IsIn n b)
  child_box k v l makes = grind (arith, common_steps, boxed v, child_faces h shape k v l makes)

  nested_left : (n : Direction) (a b : NormalBox) → IsIn n a → IsNested a (joined a b)
  nested_left n a b i = grind (arith, common_steps, max_left, min_left, same_z, ≤ℤ_by)

  nested_right : (n : Direction) (a b : NormalBox) → IsIn n b → IsNested b (joined a b)
  nested_right n a b i = grind (arith, common_steps, max_right, min_right, same_z, ≤ℤ_by)

  pub boxes_nest : (k v : ℕ) → k < record_count h → Makes h k v
      → IsNested (normal_box_of h v) (normal_box_of h (s_of h k))
  boxes_nest k v l makes =
      let (a, is_a, (n, in_a)) = child_box k (t_of h k) l (inl refl) in
      let (b, is_b, (m, in_b)) = child_box k (u_of h k) l (inr refl) in
      let whole : box_under h (s_of h k) ≡ Some (joined a b) =
      box_under-split h shape k l ∙ ap (λ o. join o (box_under h (u_of h k))) is_a
      ∙ ap (join (Some a)) is_b in
      elim makes [
        | inl is ↦ (rw (is, is_a, whole) (nested_left n a b in_a))
        | inr is ↦ (rw (is, is_b, whole) (nested_right m a b in_b))
      ]
