-- The vertices that are alive at a stage of a run are the active nodes of the front there.
use Rattle.std.proofs.lemmas.Grind.{common_steps}
use Rattle.std.proofs.Common.{suc, ◌≡◌, ◌≢◌, ℕ, ◌+◌, ◌-◌, ◌*◌, ◌<◌, ◌≤◌, true, false, length, inl}
use Rattle.std.proofs.Common.{inr, sym, ap, ◌∙◌, subst, arith}
use Rattle.std.proofs.lemmas.Bool.{cases_lt, lt-ltb, ltb-true, both_ways, false_from_ne_true}
use Rattle.pm_forest.proofs.Ancestors.{there-lt}
use Rattle.pm_forest.specs.Forest.{s_of}
use Rattle.pm_forest.specs.Fronts.{IsActive, below}
use Rattle.pm_number.proofs.LeafNumbers.{forest}
use Rattle.pm_number.proofs.NodeNumbers.{stays_left, as_t, as_u, takes-t, takes-u, takes-parts}
use Rattle.pm_number.proofs.NodeNumbers.{node-t, node-u, node_of, node-once, node-back, root-count}
use Rattle.pm_number.proofs.NodeNumbers.{count, s-of}
use Rattle.pm_number.specs.Numbering.{takes, left_over, step_of, node_number, hierarchy_of}
use Rattle.pm_number.specs.Numbering.{IsThereAfter}
use Rattle.pm_number.specs.Stages.{Run, steps, entry_at, IsMerging}

module _ (r : Run) (run : IsMerging r) (i k : ℕ) (is : i + k ≡ steps r) where
  -- a record below k doesn't split the node of a vertex given by then
  unsplit : (v : ℕ) → v < r.vertices + i → (j : ℕ) → j < k
      → s_of (hierarchy_of r) j ≢ node_number r v
  unsplit v l j m z =
      grind (arith, common_steps, node-once, s-of)

  pub live-active : (v : ℕ) → IsThereAfter r i v
      → IsActive (hierarchy_of r) (below k) (node_number r v)
  live-active v (l, free) =
      let c = count r in
      let roots = root-count r in
      let made : (j : ℕ) → j < steps r → takes r v j ≡ true
      → i ≤ j = λ j j_lt e. elim (cases_lt j i) [
        | inl a ↦ absurd (both_ways _ (free j a) e)
        | inr a ↦ a
      ] in (
        elim (node_of r run v (omega arith)) [
          | stays_left a b n ↦ inl (omega arith)
          | as_t j j_lt v_is n ↦
              let late = made j j_lt (subst (λ v. takes r v j ≡ true) (sym v_is) (takes-t r j)) in
              let o = steps r - suc j in
              inr (o, omega arith, lt-ltb o k (omega arith), inl (omega arith))
          | as_u j j_lt v_is n ↦
              let late = made j j_lt (subst (λ v. takes r v j ≡ true) (sym v_is) (takes-u r j)) in
              let o = steps r - suc j in
              inr (o, omega arith, lt-ltb o k (omega arith), inr (omega arith))
        ],
        λ j b t z. unsplit v l j (ltb-true j k t) z,
      )

  -- a vertex taken before has a node of a greater record
  too_high : (v n j : ℕ) → j < i → n < length (left_over r) + 2 * k → node_number r v ≡ n
      → takes r v j ≡ true → ⊥
  too_high v n j l low v_is e =
      grind (arith, common_steps, node-t, node-u, takes-parts)

  pub active-live : (n : ℕ) → IsActive (hierarchy_of r) (below k) n → (v : ℕ) × IsThereAfter r i v
      × (node_number r v ≡ n)
  active-live n active =
      let h = hierarchy_of r in
      let c = count r in
      let roots = root-count r in
      let n_lt = there-lt h (forest r run) (below k) n active.0 in
      let (v, v_lt, v_is) = node-back r run n (omega arith) in
      let low : n < length (left_over r) + 2 * k =
      elim active.0 [
        | inl a ↦ omega arith
        | inr (j, a, b, makes) ↦ (let j_lt =
            ltb-true j k b in elim makes [ inl d ↦ omega arith | inr d ↦ omega arith ])
      ] in
      let given : v < r.vertices + i =
      elim (cases_lt v (r.vertices + i)) [
        | inl a ↦ a
        | inr a ↦
            let o = v - r.vertices in
            let o_lt : o < steps r = omega arith in
            let j = steps r - suc o in
            let named = run.named o o_lt in
            let back : steps r - suc j ≡ o = omega arith in
            let same : (step_of r j).s ≡ (entry_at r o).s = ap (λ n. (entry_at r n).s) back in
            let v_s : (step_of r j).s ≡ v = omega arith in
            absurd (active.1 j (omega arith) (lt-ltb j k (omega arith)) (s-of r j (omega arith)
            ∙ ap (node_number r) v_s ∙ v_is))
      ] in
      let free : (j : ℕ) → j < i → takes r v j ≡ false =
      λ j l. false_from_ne_true _ (λ e. too_high v n j l low v_is e) in
      (v, (given, free), v_is)
