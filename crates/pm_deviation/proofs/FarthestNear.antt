-- The farthest plane is no farther than a node's error, and no plane of a face under the node is
-- farther from its place.
use Rattle.std.proofs.Common.{◌≡◌, ℕ, ◌+◌, ◌*◌, ◌<◌, ◌≤◌, min, Bool, true, List, [], ◌∷◌, map}
use Rattle.std.proofs.Common.{length, get_or, sym, ◌∙◌, subst, arith}
use Rattle.std.proofs.lemmas.Grind.{common_steps}
use Rattle.std.specs.List.{filter, range_with_len}
use Rattle.std.specs.Option.{unwrap_or}
use Rattle.std.proofs.lemmas.List.FromFn.{length-range_with_len, get_or-range_with_len}
use Rattle.pm_base.specs.Geometry.{Direction, dist2_of, dot_of, norm2_of}
use Rattle.pm_base.specs.Rounded.{distance_of}
use Rattle.pm_base.specs.Sides.{face_of}
use Rattle.pm_base.proofs.Root.{root_up_is}
use Rattle.pm_forest.specs.declared.parts.Face.{Face}
use Rattle.pm_forest.specs.Forest.{Hierarchy, node_count, holds, Holds}
use Rattle.pm_forest.specs.Faces.{face_count, corners_of, from_leaf}
use Rattle.pm_forest.specs.Meshes.{leaf_place}
use Rattle.pm_forest.specs.Places.{place_of_node}
use Rattle.pm_forest.specs.Rules.{HasShape}
use Rattle.pm_bounds.specs.Bounds.{normal_of, greatest, error_of}
use Rattle.pm_bounds.proofs.Covering.{leaves_covered}
use Rattle.pm_bounds.proofs.ListLaws.{greatest_above}
use Rattle.pm_deviation.specs.Spreads.{most_along}
use Rattle.pm_deviation.specs.Normals.{root_down}
use Rattle.pm_deviation.specs.Lines.{way}
use Rattle.pm_deviation.specs.Farthest.{no_box, face_box, plane_through, plane_distance}
use Rattle.pm_deviation.specs.Farthest.{farthest_of}
use Rattle.pm_deviation.specs.Farthest.{farthest_plane}
use Rattle.pm_deviation.specs.Laws.{value_of, IsWithin}
use Rattle.pm_deviation.proofs.CornerPlanes.{on_plane, zero_within, by_way}
use Rattle.pm_deviation.proofs.PartLaws.{parts_scaled, low_length}
use Rattle.pm_deviation.proofs.PartLaws.{unit_box_some}
use Rattle.pm_deviation.proofs.PlaneValues.{within_more, moves_add}
use Rattle.pm_deviation.proofs.Products.{IsScaledInBox}

greatest_least : (g : ℕ → ℕ) (p : ℕ → Bool) (m : ℕ) → ((n : ℕ) → p n ≡ true → g n ≤ m)
    → (ns : List ℕ) → greatest (map g (filter p ns)) ≤ m
greatest_least g p m below [] = omega arith
greatest_least g p m below (n ∷ ns) =
    grind (arith, common_steps, below n, greatest_least g p m below ns)

min_under : (a b c : ℕ) → a ≤ c → min a b ≤ c
min_under a b c l = omega arith

module _ (h : Hierarchy) (shape : HasShape h) where
  plane_below : (v e : ℕ) → v < node_count h → Holds h v (from_leaf h e)
      → plane_distance h v e ≤ error_of h v
  unfolding plane_through
  plane_below v e l held =
      let p = place_of_node h v in
      let q = leaf_place h (from_leaf h e) in
      min_under (distance_of p q) (most_along (face_box h (face_of e)) (way p q)) (error_of h v)
      ((root_up_is (dist2_of p q)).least (error_of h v)
      (leaves_covered h shape v (from_leaf h e) l held))

  pub farthest_below : (v : ℕ) → v < node_count h → farthest_plane h v ≤ error_of h v
  unfolding farthest_of
  farthest_below v l =
      greatest_least (plane_distance h v) (λ e. holds h v (from_leaf h e)) (error_of h v)
      (λ e held. plane_below v e l held) (range_with_len 0 (3 * face_count h))

  module _ (e : ℕ) (side : e < 3 * face_count h) where
    abbrev face : Face
    face = corners_of h (face_of e)

    abbrev normal : Direction
    normal = normal_of h face

    abbrev square : ℕ
    square = norm2_of normal

    own_box : 0 < square → IsScaledInBox normal (root_down square) (face_box h (face_of e))
    own_box some =
        subst (λ b. IsScaledInBox normal (root_down square) (unwrap_or b no_box))
        (sym (unit_box_some normal some))
        (parts_scaled normal (root_down square) (low_length square some))

    by_corner : (v : ℕ)
        → IsWithin (dot_of normal (way (place_of_node h v) (leaf_place h (from_leaf h e)))) square
        (plane_distance h v e)
    unfolding plane_through
    by_corner v =
        by_way normal (place_of_node h v) (leaf_place h (from_leaf h e)) (face_box h (face_of e))
        own_box

    corner_is : get_or (range_with_len 0 (3 * face_count h)) e 0 ≡ e
    corner_is =
        let is : 0 + e ≡ e = omega arith in
        get_or-range_with_len 0 (3 * face_count h) e 0 side ∙ is

    no_farther : (v : ℕ) → Holds h v (from_leaf h e) → plane_distance h v e ≤ farthest_plane h v
    unfolding farthest_of
    no_farther v held =
        let es = range_with_len 0 (3 * face_count h) in
        let there : e < length es = omega (arith, length-range_with_len 0 (3 * face_count h)) in
        subst (λ c. plane_distance h v c ≤ farthest_of h v (3 * face_count h)) corner_is
        (greatest_above (plane_distance h v) (λ c. holds h v (from_leaf h c)) es e 0 there
        (subst (λ c. Holds h v (from_leaf h c)) (sym corner_is) held))

    no_more : (d : ℕ) → 0 + d ≡ d
    no_more d = omega arith

    pub farthest_near : (v : ℕ) → Holds h v (from_leaf h e)
        → IsWithin (value_of h face (place_of_node h v)) square (farthest_plane h v)
    farthest_near v held =
        let x = from_leaf h e in
        let value = value_of h face (place_of_node h v) in
        within_more value square (plane_distance h v e) (farthest_plane h v) (no_farther v held)
        (subst (IsWithin value square) (no_more (plane_distance h v e))
        (moves_add normal (leaf_place h face.a) (leaf_place h x) (place_of_node h v) square 0
        (plane_distance h v e)
        (zero_within (value_of h face (leaf_place h x)) square 0 (on_plane h e)) (by_corner v)))
