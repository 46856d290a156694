-- Where new nodes are, how many faces are put, and what is at corners.
use Rattle.std.proofs.Common.{◌≡◌, ℕ, zero, suc, ◌+◌, ◌*◌, ◌<◌, ◌≤◌, Bool, true, false, not, ◌&&◌}
use Rattle.std.proofs.Common.{◌||◌, Some, length, filter, ◌⊎◌, inl, inr, refl, sym, ap, ◌∙◌, subst}
use Rattle.std.proofs.Common.{arith}
use Rattle.std.proofs.lemmas.Bool.{cases_Bool, and_parts, and_from, and_left, and_right, and_cases}
use Rattle.std.proofs.lemmas.Bool.{or_cases, both_ways, not-true, not_from_false, not_from_true}
use Rattle.std.proofs.lemmas.Bool.{not-false}
use Rattle.pm_base.specs.Counts.{count, numbers_below}
use Rattle.pm_base.proofs.Counts.{count-true, count-false, count-zero}
use Rattle.pm_base.proofs.Search.{option_cases}
use Rattle.pm_forest.specs.Forest.{Hierarchy, node_count, maker_of, splitter_of}
use Rattle.pm_forest.specs.Fronts.{IsFront, is_active, made_in, split_in, ancestor_of}
use Rattle.pm_forest.specs.Faces.{face_count, from_leaf}
use Rattle.pm_forest.specs.Kept.{is_kept, is_shown}
use Rattle.pm_forest.specs.Rules.{HasShape}
use Rattle.pm_forest.proofs.Nodes.{maker_of-from, maker_of-makes, maker_of-lt, splitter_of-splits}
use Rattle.pm_forest.proofs.Nodes.{splitter_of-s}
use Rattle.pm_forest.proofs.ShapeLaws.{shape_of_nodes, shape_of_faces, shape_is_forest}
use Rattle.pm_forest.proofs.FrontLaws.{kept}
use Rattle.pm_forest.proofs.Shown.{shown_same}
use Rattle.pm_beyond.specs.Plans.{less}
use Rattle.pm_morph.specs.Laws.{ShownFace, shown_face_at}
use Rattle.pm_front.proofs.Counting.{length-passing}
use Rattle.pm_change.specs.Shown.{shown_node_at, shown_nodes}
use Rattle.pm_change.specs.Changes.{put_faces, is_new_node, is_put, is_at_new, has_new_corner}
use Rattle.pm_change.specs.Applying.{IsIn}
use Rattle.pm_change.specs.Laws as laws
use Rattle.pm_change.specs.Laws.{IsNear, child, parent, nothing, is_new_corner, new_corners}
use Rattle.pm_change.proofs.CornerLaws.{moved_corner_new, put_moved}
use Rattle.pm_change.proofs.Counting.{length-map}
use Rattle.pm_change.proofs.LeastLaws.{in_passing, from_passing}
use Rattle.pm_change.proofs.SameLaws.{here_active, here_below}

-- Where new nodes are
module _ (h : Hierarchy) (shape : HasShape h) (S G : ℕ → Bool) (v : ℕ) (l : v < node_count h) where
  less_from : (T E : ℕ → Bool) (k : ℕ) → T k ≡ true → E k ≡ false → less T E k ≡ true
  less_from T E k y z = and_from (T k) (not (E k)) y (not_from_false (E k) z)

  near_from : is_new_node h S G v ≡ true → (is_active h G v ≡ true) × IsNear h S G v
  unfolding is_active
  near_from e =
      let (y, z) = and_parts (is_active h G v) (not (is_active h S v)) e in
      let (made, unsplit) = and_parts (made_in G (maker_of h v))
      (not (split_in G (splitter_of h v))) y in (
        y,
        elim (and_cases (made_in S (maker_of h v)) (not (split_in S (splitter_of h v)))
            (not-true (is_active h S v) z)) [
              | inl unmade ↦
                  elim (option_cases (maker_of h v)) [
                    | inl none ↦ absurd (both_ways (made_in S (maker_of h v)) unmade
                        (ap (made_in S) none))
                    | inr (k, is) ↦
                        child k (maker_of-lt h k v l is)
                        (less_from G S k (sym (ap (made_in G) is) ∙ made) (sym (ap (made_in S) is)
                        ∙ unmade)) (maker_of-makes h k v is)
                  ]
              | inr was ↦
                  elim (option_cases (splitter_of h v)) [
                    | inl none ↦ absurd (both_ways (not (split_in S (splitter_of h v))) was
                        (ap (λ o. not (split_in S o)) none))
                    | inr (k, is) ↦
                        let p = splitter_of-splits h k v is in
                        parent k p.1
                        (less_from S G k (sym (ap (split_in S) is)
                        ∙ not-false (split_in S (splitter_of h v)) was) (sym (ap (split_in G) is)
                        ∙ not-true (split_in G (splitter_of h v)) unsplit)) p.0
                  ]
            ],
      )

  not_before : IsNear h S G v → is_active h S v ≡ false
  unfolding is_active
  not_before (child k m d is) =
      let (y, z) = and_parts (G k) (not (S k)) d in
      and_left (made_in S (maker_of h v)) (not (split_in S (splitter_of h v)))
      (ap (made_in S) (maker_of-from h k v is) ∙ not-true (S k) z)
  not_before (parent k m d is) =
      let (y, z) = and_parts (S k) (not (G k)) d in
      let at : splitter_of h v ≡ Some k = subst (λ w. splitter_of h w ≡ Some k) is
      (splitter_of-s h (shape_of_nodes h shape) k m) in
      and_right (made_in S (maker_of h v)) (not (split_in S (splitter_of h v)))
      (not_from_true (split_in S (splitter_of h v)) (ap (split_in S) at ∙ y))

  from_near : (is_active h G v ≡ true) × IsNear h S G v → is_new_node h S G v ≡ true
  from_near p = and_from (is_active h G v) (not (is_active h S v)) p.0
      (not_from_false (is_active h S v) (not_before p.1))

pub near : laws.NewNodesAreNear
near h shape S G v l = (near_from h shape S G v l, from_near h shape S G v l)

-- How many faces are put
module _ (h : Hierarchy) (shape : HasShape h) (S G : ℕ → Bool) (before : IsFront h S)
    (now : IsFront h G) where
  abbrev at_new : ℕ → Bool
  at_new e = is_new_corner h S G e

  pub put_corner : (f : ℕ) → f < face_count h → is_put h S G f ≡ true
      → (is_new_corner h S G (3 * f) ≡ true)
      ⊎ ((is_new_corner h S G (3 * f + 1) ≡ true) ⊎ (is_new_corner h S G (3 * f + 2) ≡ true))
  put_corner f l e =
      let is : is_kept h G f && has_new_corner h S G f
      ≡ true = sym (put_moved h S G f
      ∙ ap (λ b. is_kept h G f && b) (moved_corner_new h shape S G before f l)) ∙ e in
      let (y, z) = and_parts (is_kept h G f) (has_new_corner h S G f) is in
      let shown : is_shown h G (3 * f) ≡ true = sym (kept h (shape_is_forest h shape) G now f l)
      ∙ y in
      let shown1 : is_shown h G (3 * f + 1)
      ≡ true = shown_same h G (3 * f + 1) (3 * f) (omega arith) ∙ shown in
      let shown2 : is_shown h G (3 * f + 2)
      ≡ true = shown_same h G (3 * f + 2) (3 * f) (omega arith) ∙ shown in
      elim (or_cases (is_at_new h S G (3 * f))
      (is_at_new h S G (3 * f + 1) || is_at_new h S G (3 * f + 2)) z) [
        | inl a ↦ inl (and_from (is_shown h G (3 * f)) (is_at_new h S G (3 * f)) shown a)
        | inr b ↦ inr
            (elim (or_cases (is_at_new h S G (3 * f + 1)) (is_at_new h S G (3 * f + 2)) b) [
              | inl a ↦ inl
                  (and_from (is_shown h G (3 * f + 1)) (is_at_new h S G (3 * f + 1)) shown1
                  a)
              | inr a ↦ inr
                  (and_from (is_shown h G (3 * f + 2)) (is_at_new h S G (3 * f + 2)) shown2
                  a)
            ])
      ]

  count_next : (p : ℕ → Bool) (n : ℕ) → count p n ≤ count p (suc n)
  count_next p n = elim (cases_Bool (p n)) [
    | inl t ↦ (let c = count-true p n t in omega arith)
    | inr t ↦
        (let c = count-false p n t in omega arith)
  ]

  puts_counted : (n : ℕ) → n ≤ face_count h → count (is_put h S G) n ≤ count at_new (3 * n)
  puts_counted zero l = let a = count-zero (is_put h S G) in omega arith
  puts_counted (suc n) l =
      let r = puts_counted n (omega arith) in
      let e : 3 * suc n ≡ suc (suc (suc (3 * n))) = omega arith in
      let one : 3 * n + 1 ≡ suc (3 * n) = omega arith in
      let two : 3 * n + 2 ≡ suc (suc (3 * n)) = omega arith in
      let x = count_next at_new (3 * n) in
      let y = count_next at_new (suc (3 * n)) in
      let z = count_next at_new (suc (suc (3 * n))) in
      rw e (elim (cases_Bool (is_put h S G n)) [
        | inl t ↦
            let c = count-true (is_put h S G) n t in
            elim (put_corner n (omega arith) t) [
              | inl a ↦ (let d = count-true at_new (3 * n) a in omega arith)
              | inr b ↦
                  elim b [
                    | inl a ↦ (let d = count-true at_new (suc (3 * n)) (ap at_new (sym one) ∙ a) in
                        omega arith)
                    | inr a ↦ (let d = count-true at_new (suc (suc (3 * n))) (ap at_new (sym two)
                        ∙ a) in omega arith)
                  ]
            ]
        | inr t ↦ (let c = count-false (is_put h S G) n t in omega arith)
      ])

  few : length (put_faces h S G) ≤ length (new_corners h S G)
  few =
      let a = length-map (shown_face_at h G) (filter (is_put h S G) (numbers_below (face_count h)))
      ∙ length-passing (is_put h S G) (face_count h) in
      let b : length (new_corners h S G)
      ≡ count at_new (3 * face_count h) = length-passing at_new (3 * face_count h) in
      let c = puts_counted (face_count h) (omega arith) in
      omega arith

pub puts_few : laws.PutsAreFew
puts_few h shape S G before now = few h shape S G before now

-- The nodes at corners
module _ (h : Hierarchy) (shape : HasShape h) (G : ℕ → Bool) where
  corner_shown : (e : ℕ) → e < 3 * face_count h
      → IsIn (shown_node_at h (ancestor_of h G (from_leaf h e))) (shown_nodes h G)
  corner_shown e l =
      let leaf = (shape_of_faces h shape).leaves e l in
      let b = here_below h shape G G (from_leaf h e) leaf in
      from_passing (shown_node_at h) (is_active h G) 0 (node_count h)
      (ancestor_of h G (from_leaf h e)) (omega arith) (omega arith)
      (here_active h shape G G (from_leaf h e) leaf)

pub corners_shown : laws.CornersAreShown
corners_shown h shape G f e =
    let (i, l, p, is) = in_passing (shown_face_at h G) (is_kept h G) 0 (face_count h) f e in (
      subst (λ (w : ShownFace). IsIn (shown_node_at h w.a) (shown_nodes h G)) (sym is)
          (corner_shown h shape G (3 * i) (omega arith)),
      subst (λ (w : ShownFace). IsIn (shown_node_at h w.b) (shown_nodes h G)) (sym is)
          (corner_shown h shape G (3 * i + 1) (omega arith)),
      subst (λ (w : ShownFace). IsIn (shown_node_at h w.c) (shown_nodes h G)) (sym is)
          (corner_shown h shape G (3 * i + 2) (omega arith)),
    )

-- The corners at new nodes
pub new_listed : laws.NewCornersAreListed
new_listed h shape S G ls corners e l =
    let v = ancestor_of h G (from_leaf h e) in
    let leaf = (shape_of_faces h shape).leaves e l in (
      λ p.
          let (shown, new) = and_parts (is_shown h G e) (is_at_new h S G e) p in (
            v,
            and_from (is_active h G v) (not (is_active h S v))
                (here_active h shape S G (from_leaf h e) leaf) new,
            (corners.each v e).1
                (l, shown, refl),
          ),
      λ p.
          let (w, new, in_) = p in
          let (below, shown, is) = (corners.each w e).0 in_ in
          let (active, fresh) = and_parts (is_active h G w) (not (is_active h S w)) new in
          and_from (is_shown h G e) (is_at_new h S G e) shown
          (subst (λ u. not (is_active h S u) ≡ true) (sym is) fresh),
    )
