-- Numbers from the leaves up: the two equations that they keep.
use Rattle.std.proofs.Common.{◌≡◌, ℕ, zero, suc, ◌+◌, ◌<◌, ◌≤◌, None, Some, inl, inr, refl, sym, ap}
use Rattle.std.proofs.Common.{◌∙◌, ◌⊎◌, max, true, false, arith}
use Rattle.std.proofs.lemmas.Bool.{cases_Bool, cond-true, cond-false}
use Rattle.pm_base.proofs.Search.{option_cases}
use Rattle.pm_forest.specs.Forest.{Hierarchy, record_count, s_of, t_of, u_of, splitter_of}
use Rattle.pm_forest.specs.Forest.{HasForestShape}
use Rattle.pm_forest.proofs.Nodes.{splitter_of-splits, splitter_of-s}
use Rattle.pm_bounds.proofs.GrownLaws.{DoneFrom, later}
use Rattle.pm_deviation.specs.Deviations.{over_steps, over_planes, plane_step, line_step}
use Rattle.pm_deviation.specs.Deviations.{from_record}
use Rattle.pm_deviation.specs.Farthest.{has_few_leaves, farthest_plane}
use Rattle.pm_deviation.specs.Deviations.{from_records_in, from_records, plane_deviation_of}
use Rattle.pm_deviation.specs.Deviations.{line_deviation_of}

-- What is made of two children's numbers depends on these alone.
abbrev pub IsOfChildren : Hierarchy → ((ℕ → ℕ) → ℕ → ℕ) → Type 0
IsOfChildren h up =
    (f g : ℕ → ℕ) (k : ℕ) → f (t_of h k) ≡ g (t_of h k) → f (u_of h k) ≡ g (u_of h k)
    → up f k ≡ up g k

pub steps_of_children : (h : Hierarchy) (step : ℕ → ℕ → ℕ) → IsOfChildren h (over_steps h step)
steps_of_children h step f g k t u = rw (t, u) refl

pub planes_of_children : (h : Hierarchy) → IsOfChildren h (over_planes h)
planes_of_children h f g k t u = rw (t, u) refl

module _ (h : Hierarchy) (nodes : HasForestShape h) where
  module _ (up : (ℕ → ℕ) → ℕ → ℕ) (alike : IsOfChildren h up) where
    at_leaf : (n v : ℕ) → splitter_of h v ≡ None → from_records_in h up n v ≡ 0
    unfolding from_records_in
    at_leaf zero v none = refl
    at_leaf (suc n) v none = ap (from_record up (from_records_in h up n)) none

    at_split : (n v k : ℕ) → splitter_of h v ≡ Some k
        → from_records_in h up (suc n) v ≡ up (from_records_in h up n) k
    unfolding from_records_in
    at_split n v k e = ap (from_record up (from_records_in h up n)) e

    -- One turn more changes nothing, where all records on the way down have numbers of at least k
    -- and there are turns for them.
    steady : (n k v : ℕ) → record_count h ≤ n + k → DoneFrom h k v
        → from_records_in h up (suc n) v ≡ from_records_in h up n v
    steady zero k v enough low =
        elim (option_cases (splitter_of h v)) [
          | inl none ↦ at_leaf 1 v none ∙ sym (at_leaf 0 v none)
          | inr (j, e) ↦ (let p = (splitter_of-splits h j v e).1 in let q = low j e in
              absurd (omega arith))
        ]
    steady (suc n) k v enough low =
        elim (option_cases (splitter_of h v)) [
          | inl none ↦ at_leaf (suc (suc n)) v none ∙ sym (at_leaf (suc n) v none)
          | inr (j, e) ↦
              let p = (splitter_of-splits h j v e).1 in
              let q = low j e in
              let t = steady n (suc j) (t_of h j) (omega arith)
              (λ i g. later h nodes j i (t_of h j) p (omega arith) g) in
              let u = steady n (suc j) (u_of h j) (omega arith)
              (λ i g. later h nodes j i (u_of h j) p (omega arith) g) in
              at_split (suc n) v j e
              ∙ alike (from_records_in h up (suc n)) (from_records_in h up n) j t u
              ∙ sym (at_split n v j e)
        ]

    pub none_at_leaf : (v : ℕ) → splitter_of h v ≡ None → from_records h up v ≡ 0
    none_at_leaf v none = at_leaf (record_count h) v none

    pub up_at_split : (k : ℕ) → k < record_count h
        → from_records h up (s_of h k) ≡ up (from_records h up) k
    up_at_split k l =
        sym (steady (record_count h) 0 (s_of h k) (omega arith) (λ j e. omega arith))
        ∙ at_split (record_count h) (s_of h k) k (splitter_of-s h nodes k l)

  pub planes_at_leaf : (v : ℕ) → splitter_of h v ≡ None → plane_deviation_of h v ≡ 0
  unfolding plane_deviation_of
  planes_at_leaf v none = none_at_leaf (over_planes h) (planes_of_children h) v none

  pub planes_at_split : (k : ℕ) → k < record_count h →
      plane_deviation_of h (s_of h k) ≡ over_planes h (plane_deviation_of h) k
  unfolding plane_deviation_of
  planes_at_split k l = up_at_split (over_planes h) (planes_of_children h) k l

  -- The two cases: a node with few leaves, and another.
  pub planes_cases : (k : ℕ) → k < record_count h →
      ((has_few_leaves h (s_of h k) ≡ true) × (plane_deviation_of h (s_of h k)
      ≡ max (max (plane_deviation_of h (t_of h k)) (plane_deviation_of h (u_of h k)))
      (farthest_plane h (s_of h k))))
      ⊎ ((has_few_leaves h (s_of h k) ≡ false) × (plane_deviation_of h (s_of h k)
      ≡ over_steps h (plane_step h) (plane_deviation_of h) k))
  planes_cases k l = elim (cases_Bool (has_few_leaves h (s_of h k))) [
    | inl few ↦ inl (few, planes_at_split k l ∙ cond-true _ _ _ few)
    | inr many ↦ inr (many, planes_at_split k l ∙ cond-false _ _ _ many)
  ]

  pub lines_at_leaf : (v : ℕ) → splitter_of h v ≡ None → line_deviation_of h v ≡ 0
  unfolding line_deviation_of
  lines_at_leaf v none =
      none_at_leaf (over_steps h (line_step h)) (steps_of_children h (line_step h)) v none

  pub lines_at_split : (k : ℕ) → k < record_count h →
      line_deviation_of h (s_of h k) ≡ over_steps h (line_step h) (line_deviation_of h) k
  unfolding line_deviation_of
  lines_at_split k l =
      up_at_split (over_steps h (line_step h)) (steps_of_children h (line_step h)) k l
