-- What a legal split of a firm hierarchy does to the numbers of nodes, faces and edges.
use Rattle.std.proofs.Common.{◌≡◌, ◌≢◌, ℕ, suc, ◌+◌, ◌*◌, ◌<◌, Bool, true, false, ◌&&◌, not, Option}
use Rattle.std.proofs.lemmas.Grind.{common_steps}
use Rattle.std.proofs.Math.Bool.{and_comm}
use Rattle.std.proofs.Common.{Some, None, inl, inr, refl, sym, ap, ◌∙◌, arith}
use Rattle.std.specs.Prelude.{is_some, is_none}
use Rattle.std.proofs.lemmas.Bool.{cases_Bool, cases_eq, both_ways, or_cases, and_parts, and_from}
use Rattle.std.proofs.lemmas.Bool.{and_left, and_right, not-true, not_from_false}
use Rattle.std.proofs.lemmas.Bool.{false_from_ne_true}
use Rattle.pm_base.specs.Counts.{one_if, count}
use Rattle.pm_base.specs.Sides.{face_of}
use Rattle.pm_base.proofs.Counts.{count_same}
use Rattle.pm_forest.specs.Forest.{Hierarchy, record_at, record_count, node_count, s_of, t_of, u_of}
use Rattle.pm_forest.specs.Forest.{Makes}
use Rattle.pm_forest.specs.Fronts.{IsFront, IsActive, is_active, with}
use Rattle.pm_forest.specs.Faces.{first_face, face_count, revealed_by, IsForest}
use Rattle.pm_forest.specs.Kept.{is_kept}
use Rattle.pm_forest.proofs.Active.{is_active-true, is_active-from}
use Rattle.pm_forest.proofs.FaceNumbers.{which_face, revealed-from, first_face-mono}
use Rattle.pm_forest.proofs.Nodes.{makes_once}
use Rattle.pm_forest.proofs.OneStep.{with-cases, with-same, with-from}
use Rattle.pm_manifold.proofs.Presence.{has_a_face}
use Rattle.pm_forest.proofs.Shown.{kept-shown, shown_record, shown_base, shown-parts}
use Rattle.pm_beyond.specs.Walks.{beyond_of}
use Rattle.pm_beyond.specs.Valid.{IsValid}
use Rattle.pm_beyond.specs.Moves.{IsClosed, MaySplit}
use Rattle.pm_beyond.proofs.Standing.{forest_of, closed-front}
use Rattle.pm_beyond.proofs.Closed.{split-closed}
use Rattle.pm_firm.specs.Firm.{FacesAreHeld}
use Rattle.pm_manifold.specs.Measure.{is_border_side, is_joined_side, nodes_shown, faces_shown}
use Rattle.pm_manifold.specs.Measure.{border_sides, joined_sides, edges_shown}
use Rattle.pm_base.proofs.Counted.{both, only, count_parts, count_one, count_two, count_sides}
use Rattle.pm_manifold.proofs.SplitBorders.{is_inner, outer_borders, two_faces, one_face}

-- Border sides and joined ones are all sides of kept faces.
some-none : (r : Option ℕ) → not (is_none r) ≡ is_some r
some-none None = refl
some-none (Some x) = refl

pub sides_shown : (h : Hierarchy) (T : ℕ → Bool) → border_sides h T + joined_sides h T
    ≡ 3 * faces_shown h T
unfolding is_border_side is_joined_side
sides_shown h T =
    let kept : ℕ → Bool = λ e. is_kept h T (face_of e) in
    let none : ℕ → Bool = λ e. is_none (beyond_of h T e) in
    let n = 3 * face_count h in
    let parts = count_parts kept none n in
    let joined =
    count_same (only kept none) (is_joined_side h T) n
    (λ e l. ap (λ b. kept e && b) (some-none (beyond_of h T e))) in
    let all = count_sides (is_kept h T) kept (face_count h) (λ f. grind (arith, common_steps)) in
    omega arith

module _ (h : Hierarchy) (valid : IsValid h) (T : ℕ → Bool) (closed : IsClosed h T) (k : ℕ)
    (l : k < record_count h) (may : MaySplit h T k) where
  abbrev split_set : ℕ → Bool
  split_set = with T k

  abbrev tree : IsForest h
  tree = forest_of h valid

  front : IsFront h T
  front = closed-front h T closed

  split_front : IsFront h (with T k)
  split_front = closed-front h (with T k) (split-closed h valid T closed k l may)

  -- Nodes

  abbrev active_before : ℕ → Bool
  active_before v = is_active h T v

  abbrev active_now : ℕ → Bool
  active_now v = is_active h (with T k) v

  child_new : (v : ℕ) → Makes h k v → IsActive h (with T k) v
  child_new v makes = grind (arith, common_steps, front, with-cases, with-same)

  child_old : (v : ℕ) → Makes h k v → IsActive h T v → ⊥
  child_old v makes active = grind (arith, common_steps, makes_once)

  others_stay : (v : ℕ) → (Makes h k v → ⊥) → IsActive h (with T k) v → IsActive h T v
  others_stay v none active = grind (arith, common_steps, with-cases, with-from)

  stay_others : (v : ℕ) → v ≢ s_of h k → IsActive h T v → IsActive h (with T k) v
  stay_others v ne active = grind (arith, common_steps, with-cases, with-from)

  not_active : (D : ℕ → Bool) (v : ℕ) → v < node_count h → (IsActive h D v → ⊥)
      → not (is_active h D v) ≡ true
  not_active D v vl never =
      not_from_false (is_active h D v)
      (false_from_ne_true (is_active h D v) (λ t. never (is_active-true h tree.forest D v vl t)))

  pub nodes_more : nodes_shown h (with T k) ≡ nodes_shown h T + 1
  nodes_more =
      let n = node_count h in
      let t_lt : t_of h k < node_count h = omega arith in
      let u_lt : u_of h k < node_count h = omega arith in
      let o = tree.forest.older k l in
      let s_lt : s_of h k < node_count h = omega arith in
      let a = count_parts active_now active_before n in
      let b = count_parts active_before active_now n in
      let same = count_same (both active_now active_before) (both active_before active_now) n
      (λ v vl. and_comm (active_now v) (active_before v)) in
      let new = count_two (only active_now active_before) n (t_of h k) (u_of h k) t_lt u_lt
      (λ z. absurd (omega arith))
      (and_from (active_now (t_of h k)) (not (active_before (t_of h k)))
      (is_active-from h tree.forest split_set (t_of h k) (child_new (t_of h k) (inl refl)))
      (not_active T (t_of h k) t_lt (child_old (t_of h k) (inl refl))))
      (and_from (active_now (u_of h k)) (not (active_before (u_of h k)))
      (is_active-from h tree.forest split_set (u_of h k) (child_new (u_of h k) (inr refl)))
      (not_active T (u_of h k) u_lt (child_old (u_of h k) (inr refl))))
      (λ v vl e ne.
      let p = and_parts (active_now v) (not (active_before v)) e in
      elim (cases_eq v (u_of h k)) [
        | inl is ↦ is
        | inr other ↦
            absurd (both_ways (active_before v) (not-true (active_before v) p.1)
            (is_active-from h tree.forest T v
            (others_stay v (λ makes. elim makes [ inl z ↦ ne z | inr z ↦ other z ])
            (is_active-true h tree.forest split_set v vl p.0))))
      ]) in
      let gone = count_one (only active_before active_now) n (s_of h k) s_lt
      (and_from (active_before (s_of h k)) (not (active_now (s_of h k)))
      (is_active-from h tree.forest T (s_of h k) may.active)
      (not_active split_set (s_of h k) s_lt (λ active. active.1 k l (with-same T k) refl)))
      (λ v vl e.
      let p = and_parts (active_before v) (not (active_now v)) e in
      elim (cases_eq v (s_of h k)) [
        | inl is ↦ is
        | inr other ↦
            absurd (both_ways (active_now v) (not-true (active_now v) p.1)
            (is_active-from h tree.forest split_set v
            (stay_others v other (is_active-true h tree.forest T v vl p.0))))
      ]) in
      omega arith

  -- Faces

  abbrev kept_before : ℕ → Bool
  kept_before f = is_kept h T f

  abbrev kept_now : ℕ → Bool
  kept_now f = is_kept h (with T k) f

  at_face : (f : ℕ) → face_of (3 * f) ≡ f
  at_face f = omega arith

  own_new : (f : ℕ) → f < face_count h → revealed_by h f ≡ Some k
      → (kept_now f ≡ true) × (kept_before f ≡ false)
  own_new f fl own =
      let r = ap (λ g. revealed_by h g) (at_face f) ∙ own in (
        kept-shown h tree split_set split_front f fl ∙ shown_record h split_set (3 * f) k r
            ∙ with-same T k,
        kept-shown h tree T front f fl ∙ shown_record h T (3 * f) k r
            ∙ may.unsplit,
      )

  other_same : (f : ℕ) → f < face_count h → kept_now f ≡ true → kept_before f ≡ false
      → revealed_by h f ≡ Some k
  other_same f fl a b =
      elim (shown-parts h split_set (3 * f) (sym (kept-shown h tree split_set split_front f fl)
      ∙ a)) [
        | inl none ↦
            absurd (both_ways (kept_before f) b (kept-shown h tree T front f fl
            ∙ shown_base h T (3 * f) none))
        | inr (j, r, t) ↦
            elim (with-cases T k j t) [
              | inl is ↦ ap (λ g. revealed_by h g) (sym (at_face f)) ∙ r ∙ ap Some is
              | inr tj ↦ absurd
                  (both_ways (kept_before f) b (kept-shown h tree T front f fl
                  ∙ shown_record h T (3 * f) j r ∙ tj))
            ]
      ]

  still_kept : (f : ℕ) → f < face_count h → kept_before f ≡ true → kept_now f ≡ true
  still_kept f fl a =
      elim (shown-parts h T (3 * f) (sym (kept-shown h tree T front f fl) ∙ a)) [
        | inl none ↦ kept-shown h tree split_set split_front f fl
            ∙ shown_base h split_set (3 * f) none
        | inr (j, r, t) ↦ kept-shown h tree split_set split_front f fl
            ∙ shown_record h split_set (3 * f) j r ∙ with-from T k j t
      ]

  new_faces : faces_shown h (with T k) ≡ faces_shown h T + count (only kept_now kept_before)
      (face_count h)
  new_faces =
      let n = face_count h in
      let a = count_parts kept_now kept_before n in
      let same = count_same (both kept_now kept_before) kept_before n
      (λ f fl. elim (cases_Bool (kept_before f)) [
        | inl t ↦ and_from (kept_now f) (kept_before f) (still_kept f fl t) t ∙ sym t
        | inr t ↦ and_right (kept_now f) (kept_before f) t ∙ sym t
      ]) in
      omega arith

  only_own : (f : ℕ) → f < face_count h → only kept_now kept_before f ≡ true
      → revealed_by h f ≡ Some k
  only_own f fl t = let p = and_parts (kept_now f) (not (kept_before f)) t in
      other_same f fl p.0 (not-true (kept_before f) p.1)

  own_only : (f : ℕ) → f < face_count h → revealed_by h f ≡ Some k
      → only kept_now kept_before f ≡ true
  own_only f fl own = let p =
      own_new f fl own in
      and_from (kept_now f) (not (kept_before f)) p.0 (not_from_false (kept_before f) p.1)

  next_first : first_face h (suc k)
      ≡ first_face h k + one_if (is_some (record_at h k).left) + one_if
      (is_some (record_at h k).right)
  unfolding first_face
  next_first = refl

  -- What a split adds: a node, one or two faces, and so many edges.
  pub record Grows : Type 0 where
    pub nodes : nodes_shown h (with T k) ≡ nodes_shown h T + 1
    pub more : (m : ℕ) × (faces_shown h (with T k) ≡ faces_shown h T + m)
        × (edges_shown h (with T k) ≡ edges_shown h T + m + 1)

  module _ (held : FacesAreHeld h k) where
    one_more : (f : ℕ) → f < face_count h → revealed_by h f ≡ Some k
        → ((g : ℕ) → g < face_count h → revealed_by h g ≡ Some k → g ≡ f)
        → (is_some (record_at h k).left && is_some (record_at h k).right) ≡ false → Grows
    one_more f fl own single alone =
        let faces = new_faces in
        let one = count_one (only kept_now kept_before) (face_count h) f fl (own_only f fl own)
        (λ g gl t. single g gl (only_own g gl t)) in
        let borders = outer_borders h valid T closed k l may held in
        let inner = one_face h valid T closed k l may held f fl own single alone in
        let parts = count_parts (λ e. is_border_side h (with T k) e) (is_inner h k)
        (3 * face_count h) in
        let before = sides_shown h T in
        let after = sides_shown h (with T k) in
        record { nodes = nodes_more; more = (1, omega arith, omega arith) }

    two_more : is_some (record_at h k).left ≡ true → is_some (record_at h k).right ≡ true → Grows
    two_more a b =
        let faces = new_faces in
        let x : one_if (is_some (record_at h k).left) ≡ 1 = ap one_if a in
        let y : one_if (is_some (record_at h k).right) ≡ 1 = ap one_if b in
        let f = first_face h k in
        let count_is = next_first in
        let most = first_face-mono h (suc k) (record_count h) l in
        let low : f < face_count h = omega arith in
        let high : f + 1 < face_count h = omega arith in
        let own = revealed-from h f k l (omega arith) (omega arith) in
        let own' = revealed-from h (f + 1) k l (omega arith) (omega arith) in
        let two = count_two (only kept_now kept_before) (face_count h) f (f + 1) low high
        (λ z. absurd (omega arith)) (own_only f low own) (own_only (f + 1) high own')
        (λ g gl t ne.
        elim (which_face h g k gl (only_own g gl t)) [
          | inl (c, z) ↦ absurd (ne z)
          | inr (c, z) ↦ omega arith
        ]) in
        let borders = outer_borders h valid T closed k l may held in
        let inner = two_faces h valid T closed k l may held a b in
        let parts = count_parts (λ e. is_border_side h (with T k) e) (is_inner h k)
        (3 * face_count h) in
        let before = sides_shown h T in
        let after = sides_shown h (with T k) in
        record { nodes = nodes_more; more = (2, omega arith, omega arith) }

    pub grows : Grows
    grows =
        let x = is_some (record_at h k).left in
        let y = is_some (record_at h k).right in
        let count_is = next_first in
        let most = first_face-mono h (suc k) (record_count h) l in
        let f = first_face h k in
        elim (cases_Bool x) [
          | inl a ↦
              elim (cases_Bool y) [
                | inl b ↦ two_more a b
                | inr b ↦
                    let xs : one_if x ≡ 1 = ap one_if a in
                    let ys : one_if y ≡ 0 = ap one_if b in
                    let low : f < face_count h = omega arith in
                    one_more f low (revealed-from h f k l (omega arith) (omega arith))
                    (λ g gl own. elim (which_face h g k gl own) [
                      | inl (c, z) ↦ z
                      | inr (c, z) ↦
                          absurd (both_ways y b c)
                    ]) (and_right x y b)
              ]
          | inr a ↦
              let b : y ≡ true =
              elim (or_cases x y (has_a_face h valid.shape k l))
              [ inl c ↦ absurd (both_ways x a c) | inr c ↦ c ] in
              let xs : one_if x ≡ 0 = ap one_if a in
              let ys : one_if y ≡ 1 = ap one_if b in
              let low : f < face_count h = omega arith in
              one_more f low (revealed-from h f k l (omega arith) (omega arith))
              (λ g gl own. elim (which_face h g k gl own) [
                | inl (c, z) ↦
                    absurd (both_ways x a c)
                | inr (c, z) ↦ omega arith
              ]) (and_left x y a)
        ]
