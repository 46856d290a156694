-- Deviations are at most errors, and grow from a child to its parent.
use Rattle.std.proofs.Common.{◌≡◌, ℕ, ◌+◌, ◌*◌, ◌<◌, ◌≤◌, max, min, eqb, Bool, true, false, cond}
use Rattle.std.proofs.Common.{◌||◌, ◌⊎◌, None, inl, inr, refl, ◌∙◌, arith}
use Rattle.std.proofs.lemmas.Grind.{common_steps}
use Rattle.std.proofs.lemmas.Bool.{cond-true, cond-false, or_parts}
use Rattle.std.proofs.lemmas.Bool.{eq-eqb, ne_eqb}
use Rattle.pm_base.specs.Rounded.{distance_of}
use Rattle.pm_forest.specs.Forest.{Hierarchy, record_count, node_count, s_of, t_of, u_of, Makes}
use Rattle.pm_forest.specs.Forest.{splitter_of}
use Rattle.pm_forest.specs.Places.{place_of_node}
use Rattle.pm_forest.specs.Rules.{HasShape}
use Rattle.pm_forest.proofs.ShapeLaws.{shape_of_nodes}
use Rattle.pm_bounds.specs.Bounds.{error_of}
use Rattle.pm_bounds.proofs.Covering.{up_from_leaves, errors_grow, child_number}
use Rattle.pm_deviation.specs.Normals.{cosine_of}
use Rattle.pm_deviation.specs.Lines.{line_cosine_of}
use Rattle.pm_deviation.specs.Deviations.{over_steps, plane_step, line_step, plane_deviation_of}
use Rattle.pm_deviation.specs.Deviations.{line_deviation_of, tilted, deviation_of}
use Rattle.pm_deviation.specs.Laws.{IsBelowError, Grows}
use Rattle.pm_deviation.proofs.CosineLaws.{cosine_falls, line_cosine_falls}
use Rattle.pm_deviation.proofs.PartLaws.{ceil_grows}
use Rattle.pm_deviation.specs.Farthest.{farthest_plane}
use Rattle.pm_bounds.proofs.Nodes.{split_node}
use Rattle.pm_deviation.proofs.FarthestNear.{farthest_below}
use Rattle.pm_deviation.proofs.StepLaws.{planes_at_leaf, planes_cases, lines_at_leaf}
use Rattle.pm_deviation.proofs.StepLaws.{lines_at_split}

min_le : (a b c d : ℕ) → a ≤ c → b ≤ d → min a b ≤ min c d
min_le a b c d p q = omega arith

max_le : (a b c d : ℕ) → a ≤ c → b ≤ d → max a b ≤ max c d
max_le a b c d p q = omega arith

min_first : (a b : ℕ) → min a b ≤ a
min_first a b = omega arith

by_step : (d s t a b : ℕ) → d ≡ max (a + s) (b + t) → (a ≤ d) × (b ≤ d)
by_step d s t a b is = (omega arith, omega arith)

-- with a shorter way
stepped : (d e s t a b way_t way_u : ℕ) → d ≡ max (a + s) (b + t) → s ≤ way_t → t ≤ way_u
    → a + way_t ≤ e → b + way_u ≤ e → d ≤ e
stepped d e s t a b way_t way_u is p q r l = omega arith

by_greatest : (d t u far : ℕ) → d ≡ max (max t u) far → (t ≤ d) × (u ≤ d)
by_greatest d t u far is = (omega arith, omega arith)

-- the greatest of three numbers that are at most an error
greatest_below : (d e t u far error_t error_u way_t way_u : ℕ) → d ≡ max (max t u) far → far ≤ e
    → t ≤ error_t → u ≤ error_u → error_t + way_t ≤ e → error_u + way_u ≤ e → d ≤ e
greatest_below d e t u far error_t error_u way_t way_u is p q r a b = omega arith

-- A number that is 0 at leaves and grows by steps, or by a number that is at most the error.
module _ (h : Hierarchy) (shape : HasShape h) (step : ℕ → ℕ → ℕ) (far number : ℕ → ℕ)
    (leaf : (v : ℕ) → splitter_of h v ≡ None → number v ≡ 0)
    (split : (k : ℕ) → k < record_count h
    → ((far k ≤ error_of h (s_of h k))
    × (number (s_of h k) ≡ max (max (number (t_of h k)) (number (u_of h k))) (far k)))
    ⊎ (number (s_of h k) ≡ over_steps h step number k)) where
  steps_below : ((s v : ℕ) → step s v ≤ distance_of (place_of_node h s) (place_of_node h v))
      → (v : ℕ) → v < node_count h → number v ≤ error_of h v
  steps_below short v l =
      up_from_leaves h shape (λ w. number w ≤ error_of h w)
      (λ w m none. (let zero_number = leaf w none in omega arith))
      (λ k m t u.
      let up = errors_grow h shape in
      let by_t = child_number h shape (λ w. 0) (error_of h) up k (t_of h k) m (inl refl) in
      let by_u = child_number h shape (λ w. 0) (error_of h) up k (u_of h k) m (inr refl) in
      elim (split k m) [
        | inl (low, is) ↦ greatest_below _ _ _ _ _ _ _ _ _ is low t u by_t by_u
        | inr is ↦ stepped _ _ _ _ _ _ _ _ is (short (s_of h k) (t_of h k))
            (short (s_of h k) (u_of h k)) (omega arith) (omega arith)
      ])
      v l

  steps_up : (k v : ℕ) → k < record_count h → Makes h k v → number v ≤ number (s_of h k)
  steps_up k v l makes =
      let both : (number (t_of h k) ≤ number (s_of h k)) × (number (u_of h k) ≤ number (s_of h k)) =
      elim (split k l) [
        | inl (low, is) ↦ by_greatest _ _ _ _ is
        | inr is ↦ by_step (number (s_of h k)) (step (s_of h k) (t_of h k))
            (step (s_of h k) (u_of h k)) (number (t_of h k)) (number (u_of h k)) is
      ] in
      grind (arith, common_steps)

module _ (h : Hierarchy) (shape : HasShape h) where
  plane_short : (s v : ℕ) → plane_step h s v ≤ distance_of (place_of_node h s) (place_of_node h v)
  plane_short s v = min_first _ _

  line_short : (s v : ℕ) → line_step h s v ≤ distance_of (place_of_node h s) (place_of_node h v)
  line_short s v = min_first _ _

  planes_split : (k : ℕ) → k < record_count h
      → ((farthest_plane h (s_of h k) ≤ error_of h (s_of h k)) × (plane_deviation_of h (s_of h k)
      ≡ max (max (plane_deviation_of h (t_of h k)) (plane_deviation_of h (u_of h k)))
      (farthest_plane h (s_of h k))))
      ⊎ (plane_deviation_of h (s_of h k) ≡ over_steps h (plane_step h) (plane_deviation_of h) k)
  planes_split k l = elim (planes_cases h (shape_of_nodes h shape) k l) [
    | inl (few, is) ↦ inl (farthest_below h shape (s_of h k) (split_node h shape k l), is)
    | inr (many, is) ↦ inr is
  ]

  pub planes_below : (v : ℕ) → v < node_count h → plane_deviation_of h v ≤ error_of h v
  planes_below v l =
      steps_below h shape (plane_step h) (λ k. farthest_plane h (s_of h k)) (plane_deviation_of h)
      (planes_at_leaf h (shape_of_nodes h shape)) planes_split
      plane_short v l

  lines_split : (k : ℕ) → k < record_count h
      → ((0 ≤ error_of h (s_of h k)) × (line_deviation_of h (s_of h k)
      ≡ max (max (line_deviation_of h (t_of h k)) (line_deviation_of h (u_of h k))) 0))
      ⊎ (line_deviation_of h (s_of h k) ≡ over_steps h (line_step h) (line_deviation_of h) k)
  lines_split k l = inr (lines_at_split h (shape_of_nodes h shape) k l)

  pub lines_below : (v : ℕ) → v < node_count h → line_deviation_of h v ≤ error_of h v
  lines_below v l =
      steps_below h shape (line_step h) (λ k. 0) (line_deviation_of h)
      (lines_at_leaf h (shape_of_nodes h shape)) lines_split
      line_short v l

  -- The deviation of a node.
  abbrev pub is_error : ℕ → Bool
  is_error v = eqb (cosine_of h v) 0 || eqb (line_cosine_of h v) 0

  abbrev pub farther : ℕ → ℕ
  farther v =
      max (tilted (plane_deviation_of h v) (cosine_of h v))
      (tilted (line_deviation_of h v) (line_cosine_of h v))

  pub error_there : (v : ℕ) → is_error v ≡ true → deviation_of h v ≡ error_of h v
  unfolding deviation_of
  error_there v e = cond-true (is_error v) (error_of h v) (min (error_of h v) (farther v)) e

  pub tilted_there : (v : ℕ) → is_error v ≡ false
      → deviation_of h v ≡ min (error_of h v) (farther v)
  unfolding deviation_of
  tilted_there v e = cond-false (is_error v) (error_of h v) (min (error_of h v) (farther v)) e

  pub deviation_below : (v : ℕ) → deviation_of h v ≤ error_of h v
  deviation_below v = grind (arith, common_steps, error_there, min_first, tilted_there)

  -- The same from numbers that are the node's.
  pub deviation_by : (v error planes cosine lines line_cosine result : ℕ) →
      result ≡ cond (eqb cosine 0 || eqb line_cosine 0) error
      (min error (max (tilted planes cosine) (tilted lines line_cosine))) →
      error ≡ error_of h v → planes ≡ plane_deviation_of h v → cosine ≡ cosine_of h v
      → lines ≡ line_deviation_of h v → line_cosine ≡ line_cosine_of h v
      → result ≡ deviation_of h v
  unfolding deviation_of
  deviation_by v error planes cosine lines line_cosine result is error_is planes_are cosine_is
      lines_are line_cosine_is =
      is ∙ (rw (error_is, planes_are, cosine_is, lines_are, line_cosine_is) refl)

  pub below_errors : (v : ℕ) → v < node_count h → IsBelowError h v
  below_errors v l = record {
    planes = planes_below v l;
    lines = lines_below v l;
    deviation = deviation_below v;
  }

  -- From a child to its parent.
  module _ (k v : ℕ) (l : k < record_count h) (makes : Makes h k v) where
    error_up : error_of h v ≤ error_of h (s_of h k)
    error_up = (let up =
        child_number h shape (λ w. 0) (error_of h) (errors_grow h shape) k v l makes in omega arith)

    pub planes_up : plane_deviation_of h v ≤ plane_deviation_of h (s_of h k)
    planes_up =
        steps_up h shape (plane_step h) (λ j. farthest_plane h (s_of h j)) (plane_deviation_of h)
        (planes_at_leaf h (shape_of_nodes h shape)) planes_split k v l makes

    pub lines_up : line_deviation_of h v ≤ line_deviation_of h (s_of h k)
    lines_up =
        steps_up h shape (line_step h) (λ j. 0) (line_deviation_of h)
        (lines_at_leaf h (shape_of_nodes h shape)) lines_split k v l makes

    some_cosine : (c d : ℕ) → eqb d 0 ≡ false → d ≤ c → (0 < d) × (eqb c 0 ≡ false)
    some_cosine c d e p = grind (arith, common_steps, eq-eqb, ne_eqb)

    -- where the parent's cosines aren't 0
    neither : (a b c d : ℕ) → (eqb c 0 || eqb d 0) ≡ false → c ≤ a → d ≤ b
        → (0 < c) × (0 < d) × ((eqb a 0 || eqb b 0) ≡ false)
    neither a b c d e p q =
        let none = or_parts (eqb c 0) (eqb d 0) e in
        let first = some_cosine a c none.0 p in
        let second = some_cosine b d none.1 q in
        (first.0, second.0, rw (first.1, second.1) refl)

    tilted_up : is_error (s_of h k) ≡ false → deviation_of h v ≤ deviation_of h (s_of h k)
    tilted_up e =
        let s = s_of h k in
        let cosine = cosine_falls h shape k l v makes in
        let line_cosine = line_cosine_falls h shape k l v makes in
        let (some, line_some, same) =
        neither (cosine_of h v) (line_cosine_of h v) (cosine_of h s) (line_cosine_of h s) e cosine
        line_cosine in
        let planes = ceil_grows (16384 * plane_deviation_of h v) (16384 * plane_deviation_of h s)
        (cosine_of h v) (cosine_of h s) (omega (arith, planes_up)) cosine some in
        let lines = ceil_grows (16384 * line_deviation_of h v) (16384 * line_deviation_of h s)
        (line_cosine_of h v) (line_cosine_of h s) (omega (arith, lines_up)) line_cosine line_some in
        let own = tilted_there v same in
        let parent = tilted_there s e in
        rw (own, parent)
        (min_le (error_of h v) (farther v) (error_of h s) (farther s) error_up
        (max_le _ _ _ _ planes lines))

    pub deviation_up : deviation_of h v ≤ deviation_of h (s_of h k)
    deviation_up = grind (arith, common_steps, deviation_below, error_there, error_up, tilted_up)

    pub grow : Grows h v (s_of h k)
    grow = record {
      planes = planes_up;
      lines = lines_up;
      deviation = deviation_up;
      cosine = cosine_falls h shape k l v makes;
      line_cosine = line_cosine_falls h shape k l v makes;
    }
