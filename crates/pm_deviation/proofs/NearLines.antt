-- The lines of the border sides under a node are within its line deviation.
use Rattle.std.proofs.Common.{◌≡◌, ℕ, ◌+◌, ◌*◌, ◌<◌, ◌≤◌, max, min, true, ◌||◌, get_or, length}
use Rattle.std.proofs.Common.{Some, inl, inr, sym, ap, ◌∙◌, subst, arith}
use Rattle.std.proofs.lemmas.Grind.{common_steps}
use Rattle.std.proofs.Math.Nat.{le_refl}
use Rattle.std.specs.List.{range_with_len}
use Rattle.std.specs.Option.{is_none, option_map}
use Rattle.std.proofs.lemmas.Nat.{mul-le}
use Rattle.std.proofs.lemmas.Bool.{cases_eq, and_parts, or_cases}
use Rattle.std.proofs.lemmas.List.FromFn.{get_or-range_with_len, length-range_with_len}
use Rattle.pm_base.specs.Place.{Place}
use Rattle.pm_base.specs.Geometry.{Direction, norm2_of, square_of}
use Rattle.pm_base.specs.Rounded.{distance_of}
use Rattle.pm_forest.specs.Forest.{Hierarchy, node_count, s_of, t_of, u_of, holds}
use Rattle.pm_forest.specs.Faces.{face_count, from_leaf, to_leaf}
use Rattle.pm_forest.specs.Places.{place_of_node}
use Rattle.pm_forest.specs.Rules.{HasShape}
use Rattle.pm_forest.specs.Tables.{leaf_node_of}
use Rattle.pm_forest.specs.Meshes.{leaf_place}
use Rattle.pm_forest.proofs.LeafNodes.{leaf_node-unsplit}
use Rattle.pm_forest.proofs.ShapeLaws.{shape_of_nodes}
use Rattle.pm_beyond.specs.Walks.{leaf_twin}
use Rattle.pm_bounds.proofs.Covering.{near, up_from_leaves}
use Rattle.pm_deviation.specs.declared.axes.Axis.{Axis}
use Rattle.pm_deviation.specs.Spreads.{along}
use Rattle.pm_deviation.specs.Normals.{root_down, direction_of, part_along}
use Rattle.pm_deviation.specs.Borders.{is_border_side_under}
use Rattle.pm_deviation.specs.Lines.{way, side_way, line_spread_of, line_box_of}
use Rattle.pm_deviation.specs.Deviations.{across, line_step, line_deviation_of}
use Rattle.pm_deviation.proofs.BorderLaws.{side-split}
use Rattle.pm_deviation.proofs.CrossLaws.{times_of, times_le, times_way, times_box, moved_within}
use Rattle.pm_deviation.proofs.CrossLaws.{none_first, none_second}
use Rattle.pm_deviation.proofs.NearLaws.{box_scaled}
use Rattle.pm_deviation.proofs.PartLaws.{parts_of, low_length, root_down_is, unit_box_some}
use Rattle.pm_deviation.proofs.SpreadLaws.{IsSomeOver, spread_above}
use Rattle.pm_deviation.proofs.StepLaws.{lines_at_split}

first : (e : ℕ) → 0 + e ≡ e
first e = omega arith

min_of : (c a b n : ℕ) → c ≤ a * a * n → c ≤ b * b * n → c ≤ min a b * min a b * n
min_of c a b n p q = grind (arith, common_steps)

raised : (c d e n : ℕ) → c ≤ d * d * n → d ≤ e → c ≤ e * e * n
raised c d e n p h = omega (arith, p, mul-le (d * d) n (e * e) n (mul-le d d e e h h) (le_refl n))

no_side : (c n m d : ℕ) → c ≤ n * m → n ≡ 0 → c ≤ d * d * n
no_side c n m d h is =
    subst (λ k. c ≤ d * d * k) (sym is) (omega (arith, subst (λ k. c ≤ k * m) is h))

none_within : (c d n : ℕ) → c ≡ 0 → c ≤ d * d * n
none_within c d n is = omega arith

module _ (h : Hierarchy) (shape : HasShape h) (e : ℕ) (side : e < 3 * face_count h) where
  abbrev runs : Direction
  runs = side_way h e

  abbrev start : Place
  start = leaf_place h (from_leaf h e)

  -- the node's place is at most so far from the side's line
  abbrev IsNear : ℕ → ℕ → Type 0
  IsNear v d =
      norm2_of (times_of runs (way (place_of_node h v) start)) ≤ square_of d * norm2_of runs

  -- what the side has along an axis is in the spread of each node above an end
  covers : (v : ℕ) → is_border_side_under h v e ≡ true → 0 < norm2_of runs → (u : Axis)
      → IsSomeOver (line_spread_of h u v) (along (parts_of runs) (direction_of u))
  unfolding line_spread_of
  covers v under some u =
      let sides = range_with_len 0 (3 * face_count h) in
      let at : get_or sides e 0 ≡ e =
      get_or-range_with_len 0 (3 * face_count h) e 0 side ∙ first e in
      let there : e < length sides =
      subst (λ (n : ℕ). e < n) (sym (length-range_with_len 0 (3 * face_count h))) side in
      let part : part_along u (side_way h (get_or sides e 0))
      ≡ Some (along (parts_of runs) (direction_of u)) =
      subst (λ (i : ℕ). part_along u (side_way h i) ≡ Some (along (parts_of runs) (direction_of u)))
      (sym at) (ap (option_map (λ b. along b (direction_of u))) (unit_box_some runs some)) in
      spread_above (λ i. part_along u (side_way h i)) (is_border_side_under h v) sides e 0
      (along (parts_of runs) (direction_of u)) there
      (subst (λ (i : ℕ). is_border_side_under h v i ≡ true) (sym at) under) part

  boxed : (v : ℕ) (move : Direction) → is_border_side_under h v e ≡ true
      → norm2_of (times_of runs move) ≤ square_of (across (line_box_of h v) move) * norm2_of runs
  boxed v move under = elim (cases_eq (norm2_of runs) 0) [
    | inl is ↦ no_side (norm2_of (times_of runs move)) (norm2_of runs) (norm2_of move)
        (across (line_box_of h v) move) (times_le runs move) is
    | inr differs ↦
        let some : 0 < norm2_of runs = omega (arith, differs) in
        times_box runs move (root_down (norm2_of runs)) (line_box_of h v)
        (box_scaled runs (root_down (norm2_of runs)) (λ u. line_spread_of h u v)
        (low_length (norm2_of runs) some) (covers v under some))
        (root_down_is (norm2_of runs)).square
  ]

  stepped : (s v : ℕ) → is_border_side_under h v e ≡ true
      → norm2_of (times_of runs (way (place_of_node h s) (place_of_node h v)))
      ≤ square_of (line_step h s v) * norm2_of runs
  stepped s v under =
      let p = place_of_node h s in
      let q = place_of_node h v in
      min_of (norm2_of (times_of runs (way p q))) (distance_of p q)
      (across (line_box_of h v) (way p q)) (norm2_of runs)
      (times_way runs (way p q) (distance_of p q) (near p q)) (boxed v (way p q) under)

  from_child : (k v d : ℕ) → is_border_side_under h v e ≡ true → IsNear v (line_deviation_of h v)
      → line_deviation_of h v + line_step h (s_of h k) v ≤ d → IsNear (s_of h k) d
  from_child k v d under near_child below =
      raised (norm2_of (times_of runs (way (place_of_node h (s_of h k)) start)))
      (line_deviation_of h v + line_step h (s_of h k) v) d (norm2_of runs)
      (moved_within runs start (place_of_node h v) (place_of_node h (s_of h k))
      (line_deviation_of h v) (line_step h (s_of h k) v) near_child (stepped (s_of h k) v under))
      below

  left_le : (d a b : ℕ) → d ≡ max a b → a ≤ d
  left_le d a b is = omega arith

  right_le : (d a b : ℕ) → d ≡ max a b → b ≤ d
  right_le d a b is = omega arith

  at_start : (v : ℕ) → place_of_node h v ≡ start → IsNear v (line_deviation_of h v)
  at_start v is =
      none_within (norm2_of (times_of runs (way (place_of_node h v) start))) (line_deviation_of h v)
      (norm2_of runs)
      (ap (λ (p : Place). norm2_of (times_of runs (way p start))) is ∙ none_first runs start)

  at_end : (v : ℕ) → place_of_node h v ≡ leaf_place h (to_leaf h e)
      → IsNear v (line_deviation_of h v)
  at_end v is =
      none_within (norm2_of (times_of runs (way (place_of_node h v) start))) (line_deviation_of h v)
      (norm2_of runs)
      (ap (λ (p : Place). norm2_of (times_of runs (way p start))) is ∙ none_second runs)

  own_place : (w x : ℕ) → leaf_node_of h x ≡ w → place_of_node h w ≡ leaf_place h x
  own_place w x is = sym (ap (place_of_node h) is)

  pub lines_near : (v : ℕ) → v < node_count h → is_border_side_under h v e ≡ true
      → IsNear v (line_deviation_of h v)
  lines_near v l =
      up_from_leaves h shape
      (λ w. is_border_side_under h w e ≡ true → IsNear w (line_deviation_of h w))
      (λ w m none under.
      let ends = and_parts (is_none (leaf_twin h e))
      (holds h w (from_leaf h e) || holds h w (to_leaf h e)) under in
      elim (or_cases (holds h w (from_leaf h e)) (holds h w (to_leaf h e)) ends.1) [
        | inl held ↦ at_start w (own_place w (from_leaf h e)
            (leaf_node-unsplit h (shape_of_nodes h shape) w (from_leaf h e) m none held))
        | inr held ↦ at_end w (own_place w (to_leaf h e)
            (leaf_node-unsplit h (shape_of_nodes h shape) w (to_leaf h e) m none held))
      ])
      (λ k m t u under.
      let is = lines_at_split h (shape_of_nodes h shape) k m in
      elim (or_cases (is_border_side_under h (t_of h k) e) (is_border_side_under h (u_of h k) e)
      (sym (side-split h shape k e m) ∙ under)) [
        | inl a ↦ from_child k (t_of h k) (line_deviation_of h (s_of h k)) a (t a)
            (left_le _ _ _ is)
        | inr a ↦ from_child k (u_of h k) (line_deviation_of h (s_of h k)) a (u a)
            (right_le _ _ _ is)
      ])
      v l
