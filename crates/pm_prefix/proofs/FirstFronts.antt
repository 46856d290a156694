-- Fronts of the first records: active nodes and ancestors are those of the whole.
use Rattle.std.proofs.Common.{◌≡◌, ℕ, zero, suc, ◌+◌, ◌*◌, ◌<◌, ◌≤◌, Bool, false, length}
use Rattle.std.proofs.Common.{inl, inr, refl, sym, ap, ◌∙◌, subst, arith}
use Rattle.std.proofs.lemmas.Bool.{cases_Bool, cases_eq, false_from_ne_true, both_ways}
use Rattle.pm_forest.specs.Forest.{Hierarchy, record_count, node_count, leaf_count, s_of, t_of}
use Rattle.pm_forest.specs.Forest.{Makes}
use Rattle.pm_forest.specs.Fronts.{IsFront, IsActive, is_active, child_of, ancestor_after}
use Rattle.pm_forest.specs.Fronts.{ancestor_of}
use Rattle.pm_forest.proofs.Active.{is_active-true, is_active-from}
use Rattle.pm_prefix.specs.Prefix.{first_records, leaf_in}
use Rattle.pm_prefix.specs.Laws.{IsAmong}
use Rattle.pm_prefix.proofs.Nodes.{HasNodes}
use Rattle.pm_prefix.proofs.Ranks.{leaf_in-lt}
use Rattle.pm_prefix.proofs.Parts.{root_count-first, record_count-first, node_count-first}
use Rattle.pm_prefix.proofs.Parts.{t_of-first, u_of-first, s_of-first}
use Rattle.pm_prefix.proofs.Intervals.{leaf_count-first, holds-first, root_of-first}
use Rattle.pm_prefix.proofs.Intervals.{forest_shape-first}

module _ (h : Hierarchy) (shape : HasNodes h) (n : ℕ) (l : n ≤ record_count h) (T : ℕ → Bool)
    (among : IsAmong n T) where
  abbrev first : Hierarchy
  first = first_records h n

  -- no later record is split
  pub later_unsplit : (k : ℕ) → n ≤ k → T k ≡ false
  later_unsplit k m = false_from_ne_true (T k) (λ e. let lt = among k e in absurd (omega arith))

  pub ancestor_rest : (k x : ℕ) → n ≤ k → ancestor_after h T k x ≡ ancestor_after h T n x
  unfolding ancestor_after
  ancestor_rest zero x m = let is : n ≡ 0 = omega arith in rw is refl
  ancestor_rest (suc k) x m =
      elim (cases_eq n (suc k)) [
        | inl is ↦ (rw is refl)
        | inr not ↦ (rw (later_unsplit k (omega arith)) (ancestor_rest k x (omega arith)))
      ]

  child_of-first : (k x : ℕ) → k < n → x < leaf_count h
      → child_of first k (leaf_in h n x) ≡ child_of h k x
  child_of-first k x m lt =
      let held = holds-first h shape n l (t_of h k) x (omega arith) lt in
      rw (t_of-first h n k, held) refl

  ancestors_after : (k x : ℕ) → k ≤ n → x < leaf_count h
      → ancestor_after first T k (leaf_in h n x) ≡ ancestor_after h T k x
  unfolding ancestor_after
  ancestors_after zero x m lt = root_of-first h shape n l x lt
  ancestors_after (suc k) x m lt =
      rw (
        ancestors_after k x (omega arith) lt,
        s_of-first h n k m,
        child_of-first k x m lt,
      ) refl

  pub ancestor_of-first : (x : ℕ) → x < leaf_count h
      → ancestor_of first T (leaf_in h n x) ≡ ancestor_of h T x
  ancestor_of-first x lt =
      ap (λ k. ancestor_after first T k (leaf_in h n x)) (record_count-first h n)
      ∙ ancestors_after n x (omega arith) lt ∙ sym (ancestor_rest (record_count h) x l)

  pub keeps_ancestor : (x : ℕ) → x < leaf_count h
      → (leaf_in h n x < leaf_count first)
      × (ancestor_of first T (leaf_in h n x) ≡ ancestor_of h T x)
  keeps_ancestor x lt = (
    omega (arith, leaf_in-lt h shape n l x lt, leaf_count-first h shape n l),
    ancestor_of-first x lt,
  )

  -- the same records make the same nodes
  makes_in : (k v : ℕ) → Makes first k v → Makes h k v
  makes_in k v makes = elim makes [
    | inl is ↦ inl (is ∙ t_of-first h n k)
    | inr is ↦ inr (is ∙ u_of-first h n k)
  ]

  makes_out : (k v : ℕ) → Makes h k v → Makes first k v
  makes_out k v makes = elim makes [
    | inl is ↦ inl (is ∙ sym (t_of-first h n k))
    | inr is ↦ inr (is ∙ sym (u_of-first h n k))
  ]

  pub front_of-first : IsFront first T → IsFront h T
  front_of-first front k j m e makes =
      let lt = among k e in
      let there : k < record_count first = omega (arith, record_count-first h n) in
      front k j there e (makes_out j (s_of first k)
      (subst (Makes h j) (sym (s_of-first h n k lt)) makes))

  active_in : (v : ℕ) → IsActive first T v → IsActive h T v
  active_in v active = (
    elim active.0 [
      | inl a ↦ inl (omega (arith, root_count-first h n))
      | inr (j, j_lt, e, makes) ↦ inr (
        j,
        omega (arith, record_count-first h n),
        e,
        makes_in j v makes,
      )
    ],
    λ k m e is.
        let lt = among k e in
        active.1 k (omega (arith, record_count-first h n)) e (s_of-first h n k lt ∙ is),
  )

  active_out : (v : ℕ) → IsActive h T v → IsActive first T v
  active_out v active = (
    elim active.0 [
      | inl a ↦ inl (omega (arith, root_count-first h n))
      | inr (j, j_lt, e, makes) ↦ inr (
        j,
        (let lt = among j e in omega (arith, record_count-first h n)),
        e,
        makes_out j v makes,
      )
    ],
    λ k m e is.
        let lt = among k e in
        active.1 k (omega arith) e (sym (s_of-first h n k lt) ∙ is),
  )

  pub is_active-first : (v : ℕ) → v < length h.roots + 2 * n
      → is_active first T v ≡ is_active h T v
  is_active-first v m =
      let nodes = forest_shape-first h shape n l in
      let there : v < node_count first = omega (arith, node_count-first h n) in
      elim (cases_Bool (is_active h T v)) [
        | inl e ↦
            is_active-from first nodes T v
            (active_out v (is_active-true h shape.nodes T v (omega arith) e)) ∙ sym e
        | inr e ↦
            false_from_ne_true _ (λ a. both_ways _ e
            (is_active-from h shape.nodes T v
            (active_in v (is_active-true first nodes T v there a)))) ∙ sym e
      ]

  -- no later node is active
  pub later_inactive : (v : ℕ) → length h.roots + 2 * n ≤ v → v < node_count h
      → is_active h T v ≡ false
  later_inactive v m lt =
      false_from_ne_true _ (λ e.
      let active = is_active-true h shape.nodes T v lt e in
      elim active.0 [
        | inl a ↦ absurd (omega arith)
        | inr (j, j_lt, t, makes) ↦
            let j_n = among j t in
            elim makes [ inl is ↦ absurd (omega arith) | inr is ↦ absurd (omega arith) ]
      ])
