-- The planes of the faces under a node are within its plane deviation.
use Rattle.std.proofs.Common.{◌≡◌, ℕ, ◌+◌, ◌*◌, ◌<◌, ◌≤◌, max, true, get_or, Option, Some, inl}
use Rattle.std.proofs.Common.{inr, sym, ap, subst, arith}
use Rattle.std.proofs.lemmas.Grind.{common_steps}
use Rattle.std.specs.Prelude.{ℤ, pos, ◌+ℤ◌, ◌*ℤ◌}
use Rattle.std.specs.Option.{option_map, unwrap_or}
use Rattle.pm_base.specs.Geometry.{Direction, dot_of, norm2_of}
use Rattle.pm_base.specs.Sides.{face_of}
use Rattle.pm_base.proofs.Ring.{diff-of, diff_same, add-diff, mul-diff, pos_is_diff}
use Rattle.pm_forest.specs.declared.parts.Face.{Face}
use Rattle.pm_forest.specs.Forest.{Hierarchy, node_count, s_of, t_of, u_of, Holds}
use Rattle.pm_forest.specs.Faces.{faces_of, face_count, corners_of, from_leaf, no_face_corners}
use Rattle.pm_forest.specs.Places.{place_of_node}
use Rattle.pm_forest.specs.Rules.{HasShape}
use Rattle.pm_forest.specs.Tables.{leaf_node_of}
use Rattle.pm_forest.specs.Meshes.{leaf_place}
use Rattle.pm_forest.proofs.LeafNodes.{leaf_node-unsplit}
use Rattle.pm_forest.proofs.ShapeLaws.{shape_of_nodes}
use Rattle.pm_bounds.specs.Bounds.{normal_of, has_corner_under}
use Rattle.pm_bounds.proofs.FacesUnder.{under_from, face_there}
use Rattle.pm_bounds.proofs.Covering.{up_from_leaves, child_of_leaf}
use Rattle.pm_deviation.specs.declared.axes.Axis.{Axis}
use Rattle.pm_deviation.specs.declared.spread.Spread.{Spread}
use Rattle.pm_deviation.specs.Spreads.{along, no_spread}
use Rattle.pm_deviation.specs.Normals.{root_down, direction_of, unit_box, part_along, spread_of}
use Rattle.pm_deviation.specs.Normals.{x_axis, y_axis, z_axis, box_by, unit_box_of}
use Rattle.pm_deviation.specs.Lines.{way}
use Rattle.pm_deviation.specs.Deviations.{plane_step, plane_deviation_of}
use Rattle.pm_deviation.specs.Laws.{value_of, IsWithin, Show}
use Rattle.pm_deviation.specs.Farthest.{farthest_plane}
use Rattle.pm_deviation.proofs.CornerPlanes.{on_plane, zero_within, by_way}
use Rattle.pm_deviation.proofs.FarthestNear.{farthest_near}
use Rattle.pm_deviation.proofs.PartLaws.{parts_of, parts_scaled, IsLength, low_length}
use Rattle.pm_deviation.proofs.PartLaws.{unit_box_some}
use Rattle.pm_deviation.proofs.PlaneValues.{within_more, moves_add}
use Rattle.pm_deviation.proofs.PlaneValues.{triangles_near}
use Rattle.pm_deviation.proofs.Products.{IsScaledIn, IsScaledInBox, scaled_along, scaled_over}
use Rattle.pm_deviation.proofs.SpreadLaws.{IsSomeOver, spread_above}
use Rattle.pm_deviation.proofs.StepLaws.{planes_cases}

-- Along the axes stand the numbers of a vector.

one_x : (a b c : ℤ) → a *ℤ pos 1 +ℤ b *ℤ pos 0 +ℤ c *ℤ pos 0 ≡ a
one_x a b c =
    rw (diff-of a, diff-of b, diff-of c, pos_is_diff 1, pos_is_diff 0)
    (simp (add-diff, mul-diff) (diff_same _ _ _ _ (omega arith)))

one_y : (a b c : ℤ) → a *ℤ pos 0 +ℤ b *ℤ pos 1 +ℤ c *ℤ pos 0 ≡ b
one_y a b c =
    rw (diff-of a, diff-of b, diff-of c, pos_is_diff 1, pos_is_diff 0)
    (simp (add-diff, mul-diff) (diff_same _ _ _ _ (omega arith)))

one_z : (a b c : ℤ) → a *ℤ pos 0 +ℤ b *ℤ pos 0 +ℤ c *ℤ pos 1 ≡ c
one_z a b c =
    rw (diff-of a, diff-of b, diff-of c, pos_is_diff 1, pos_is_diff 0)
    (simp (add-diff, mul-diff) (diff_same _ _ _ _ (omega arith)))

-- What the parts of a normal have along an axis lies in a spread, so the spread holds its number
-- there.
axis_scaled : (n : Direction) (l : ℕ) (u : Axis) (o : Option Spread) (k : ℤ)
    → dot_of n (direction_of u) ≡ k → IsScaledInBox n l (parts_of n) →
    IsSomeOver o (along (parts_of n) (direction_of u)) → IsScaledIn k l (unwrap_or o no_spread)
axis_scaled n l u o k is i (a, some, over) =
    subst (λ (p : Option Spread). IsScaledIn k l (unwrap_or p no_spread)) (sym some)
    (scaled_over k l a (along (parts_of n) (direction_of u)) over.0 over.1
    (subst (λ (z : ℤ). IsScaledIn z l (along (parts_of n) (direction_of u))) is
    (scaled_along n (direction_of u) l (parts_of n) i)))

-- So the box of spreads that have what the normal has along each axis holds the normal.
pub box_scaled : (n : Direction) (l : ℕ) (spread : Axis → Option Spread) → IsLength (norm2_of n) l
    → ((u : Axis) → IsSomeOver (spread u) (along (parts_of n) (direction_of u)))
    → IsScaledInBox n l (box_by spread)
box_scaled n l spread len covers =
    let i = parts_scaled n l len in
    record {
      x = axis_scaled n l x_axis (spread x_axis) n.x (one_x n.x n.y n.z) i (covers x_axis);
      y = axis_scaled n l y_axis (spread y_axis) n.y (one_y n.x n.y n.z) i (covers y_axis);
      z = axis_scaled n l z_axis (spread z_axis) n.z (one_z n.x n.y n.z) i (covers z_axis);
    }

module _ (h : Hierarchy) (shape : HasShape h) (e : ℕ) (side : e < 3 * face_count h) where
  abbrev face : Face
  face = corners_of h (face_of e)

  abbrev normal : Direction
  normal = normal_of h face

  abbrev square : ℕ
  square = norm2_of normal

  -- what the face's normal has along an axis is in the spread of each node above a corner
  pub spread_covers : (v : ℕ) → Holds h v (from_leaf h e) → 0 < square → (u : Axis)
      → IsSomeOver (spread_of h u v) (along (parts_of normal) (direction_of u))
  unfolding spread_of
  spread_covers v held some u =
      let f = face_of e in
      let is_face : f < face_count h = omega arith in
      let there = face_there h f is_face in
      let p : has_corner_under h v (get_or (faces_of h) f no_face_corners) ≡ true =
      subst (λ (g : Face). has_corner_under h v g ≡ true) (sym there.0)
      (under_from h v e held) in
      let own : unit_box normal ≡ Some (parts_of normal) = unit_box_some normal some in
      let part : part_along u (normal_of h (get_or (faces_of h) f no_face_corners))
      ≡ Some (along (parts_of normal) (direction_of u)) =
      subst (λ (g : Face). part_along u (normal_of h g)
      ≡ Some (along (parts_of normal) (direction_of u)))
      (sym there.0) (ap (option_map (λ b. along b (direction_of u))) own) in
      spread_above (λ g. part_along u (normal_of h g)) (has_corner_under h v) (faces_of h) f
      no_face_corners
      (along (parts_of normal) (direction_of u)) there.1 p part

  in_box : (v : ℕ) → Holds h v (from_leaf h e) → 0 < square
      → IsScaledInBox normal (root_down square) (unit_box_of h v)
  in_box v held some =
      box_scaled normal (root_down square) (λ u. spread_of h u v) (low_length square some)
      (spread_covers v held some)

  stepped : (s v : ℕ) → Holds h v (from_leaf h e)
      → IsWithin (dot_of normal (way (place_of_node h s) (place_of_node h v))) square
      (plane_step h s v)
  stepped s v held =
      by_way normal (place_of_node h s) (place_of_node h v) (unit_box_of h v) (in_box v held)

  abbrev IsNear : ℕ → ℕ → Type 0
  IsNear v d = IsWithin (value_of h face (place_of_node h v)) square d

  from_child : (k v d : ℕ) → Holds h v (from_leaf h e) → IsNear v (plane_deviation_of h v)
      → plane_deviation_of h v + plane_step h (s_of h k) v ≤ d → IsNear (s_of h k) d
  from_child k v d held near_child below =
      within_more (value_of h face (place_of_node h (s_of h k))) square
      (plane_deviation_of h v + plane_step h (s_of h k) v) d below
      (moves_add normal (leaf_place h face.a) (place_of_node h v) (place_of_node h (s_of h k))
      square (plane_deviation_of h v) (plane_step h (s_of h k) v) near_child
      (stepped (s_of h k) v held))

  left_le : (d a b : ℕ) → d ≡ max a b → a ≤ d
  left_le d a b is = omega arith

  right_le : (d a b : ℕ) → d ≡ max a b → b ≤ d
  right_le d a b is = omega arith

  pub planes_near : (v : ℕ) → v < node_count h → Holds h v (from_leaf h e)
      → IsNear v (plane_deviation_of h v)
  planes_near v l =
      up_from_leaves h shape (λ w. Holds h w (from_leaf h e) → IsNear w (plane_deviation_of h w))
      (λ w m none held.
      let is : leaf_node_of h (from_leaf h e) ≡ w =
      leaf_node-unsplit h (shape_of_nodes h shape) w (from_leaf h e) m none held in
      zero_within (value_of h face (place_of_node h w)) square (plane_deviation_of h w)
      (subst (λ n. value_of h face (place_of_node h n) ≡ pos 0) is (on_plane h e)))
      (λ k m t u held. elim (planes_cases h (shape_of_nodes h shape) k m) [
        | inl (few, is) ↦
            within_more (value_of h face (place_of_node h (s_of h k))) square
            (farthest_plane h (s_of h k)) (plane_deviation_of h (s_of h k)) (right_le _ _ _ is)
            (farthest_near h shape e side (s_of h k) held)
        | inr (many, is) ↦ elim (child_of_leaf h shape k (from_leaf h e) m held) [
          | inl a ↦ from_child k (t_of h k) (plane_deviation_of h (s_of h k)) a (t a)
              (left_le _ _ _ is)
          | inr a ↦ from_child k (u_of h k) (plane_deviation_of h (s_of h k)) a (u a)
              (right_le _ _ _ is)
        ]
      ])
      v l

-- A triangle of three nodes that show a face.
module _ (h : Hierarchy) (shape : HasShape h) (f : ℕ) (is_face : f < face_count h) where
  abbrev IsNearFace : ℕ → ℕ → Type 0
  IsNearFace v d =
      IsWithin (value_of h (corners_of h f) (place_of_node h v))
      (norm2_of (normal_of h (corners_of h f))) d

  near_by : (e v : ℕ) → face_of e ≡ f → e < 3 * face_count h → v < node_count h
      → Holds h v (from_leaf h e) → IsNearFace v (plane_deviation_of h v)
  near_by e v is side l held = grind (arith, common_steps, planes_near)

  first_le : (a b c : ℕ) → a ≤ max (max a b) c
  first_le a b c = omega arith

  second_le : (a b c : ℕ) → b ≤ max (max a b) c
  second_le a b c = omega arith

  third_le : (a b c : ℕ) → c ≤ max (max a b) c
  third_le a b c = omega arith

  raised : (v d e : ℕ) → d ≤ e → IsNearFace v d → IsNearFace v e
  raised v d e below p =
      within_more (value_of h (corners_of h f) (place_of_node h v))
      (norm2_of (normal_of h (corners_of h f))) d e below p

  pub triangle_near : (u v w i j k : ℕ) → Show h f u v w →
      let value = λ (node : ℕ). value_of h (corners_of h f) (place_of_node h node) in
      let most = max (max (plane_deviation_of h u) (plane_deviation_of h v))
      (plane_deviation_of h w) in
      IsWithin (pos i *ℤ value u +ℤ pos j *ℤ value v +ℤ pos k *ℤ value w)
      (norm2_of (normal_of h (corners_of h f))) ((i + j + k) * most)
  triangle_near u v w i j k show =
      let value = λ (node : ℕ). value_of h (corners_of h f) (place_of_node h node) in
      let du = plane_deviation_of h u in
      let dv = plane_deviation_of h v in
      let dw = plane_deviation_of h w in
      let most = max (max du dv) dw in
      let (lu, lv, lw) = show.nodes in
      triangles_near (value u) (value v) (value w) (norm2_of (normal_of h (corners_of h f))) most i
      j k
      (raised u du most (first_le du dv dw)
      (near_by (3 * f) u (omega arith) (omega arith) lu show.first))
      (raised v dv most (second_le du dv dw)
      (near_by (3 * f + 1) v (omega arith) (omega arith) lv show.second))
      (raised w dw most (third_le du dv dw)
      (near_by (3 * f + 2) w (omega arith) (omega arith) lw show.third))
