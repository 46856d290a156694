-- The leaves of a run's vertices: what was merged into a vertex is an interval.
use Rattle.std.proofs.Common.{suc, zero, ◌≡◌, ◌≢◌, ℕ, ◌+◌, ◌-◌, ◌*◌, ◌<◌, ◌≤◌, true, map}
use Rattle.std.proofs.lemmas.Grind.{common_steps}
use Rattle.std.proofs.Common.{length, inl, inr, sym, ap, ◌∙◌, subst, arith}
use Rattle.std.proofs.lemmas.Bool.{cases_eq, cases_lt, eq-eqb, ne_eqb, lt-ltb, cond-true}
use Rattle.std.proofs.lemmas.Bool.{cond-false}
use Rattle.pm_forest.proofs.Ancestors.{active-ancestor, holds-ancestor_of, there-lt}
use Rattle.pm_forest.proofs.Nodes.{within-from, within-true, interval-t, interval-u, interval-else}
use Rattle.pm_forest.specs.Forest.{Hierarchy, widths, record_at, leaf_count, s_of, t_of, u_of}
use Rattle.pm_forest.specs.Forest.{within, interval_after}
use Rattle.pm_forest.specs.Forest.{interval_of, holds, Holds, HasForestShape}
use Rattle.pm_forest.specs.Fronts.{ancestor_of, below}
use Rattle.pm_number.proofs.NodeNumbers.{stays_left, as_t, as_u, node-t, node-u, node_of, node-once}
use Rattle.pm_number.proofs.NodeNumbers.{node-there, node-back, t_differs, root-count, count}
use Rattle.pm_number.proofs.NodeNumbers.{record-at, s-of}
use Rattle.pm_number.proofs.Positions.{interval-same, root-interval, before-within, map_map}
use Rattle.pm_number.proofs.RunLaws.{ends_given}
use Rattle.pm_number.specs.Numbering.{left_over, step_of, node_number, width_after}
use Rattle.pm_number.specs.Numbering.{width_number, start_after, leaf_number, numbered_root}
use Rattle.pm_number.specs.Numbering.{hierarchy_of}
use Rattle.pm_number.specs.Stages.{Run, steps, entry_at, IsMerging}

module _ (r : Run) (run : IsMerging r) where
  -- Widths

  pub width-kept : (i n v : ℕ) → i ≤ n → n ≤ steps r → v < r.vertices + i
      → width_after r n v ≡ width_after r i v
  unfolding width_after
  width-kept i zero v a b l = (let is : 0 ≡ i = omega arith in ap (λ n. width_after r n v) is)
  width-kept i (suc n) v a b l =
      elim (cases_lt n i) [
        | inl c ↦ (let is : suc n ≡ i = omega arith in ap (λ n. width_after r n v) is)
        | inr c ↦ grind (arith, common_steps, cond-false, ne_eqb, width-kept i n v c)
      ]

  pub width-step : (i : ℕ) → i < steps r
      → width_number r (entry_at r i).s ≡ width_number r (entry_at r i).t + width_number r
      (entry_at r i).u
  unfolding width_after
  width-step i l =
      grind (
        arith,
        common_steps,
        cond-true,
        eq-eqb,
        ends_given r run i l,
        width-kept i (steps r),
        width-kept (suc i) (steps r),
      )

  pub width-one : (x : ℕ) → x < r.vertices → width_number r x ≡ 1
  unfolding width_after
  width-one x l = width-kept 0 (steps r) x (omega arith) (omega arith) (omega arith)

  pub some-width : (n v : ℕ) → 0 < width_after r n v
  unfolding width_after
  some-width zero v = omega arith
  some-width (suc n) v =
      let c = entry_at r n in
      let t = some-width n c.t in
      elim (cases_eq v c.s) [
        | inl is ↦ (let e =
            cond-true _ (width_after r n c.t + width_after r n c.u) (width_after r n v)
            (eq-eqb v c.s is) in omega arith)
        | inr no_s ↦
            (let e = cond-false _ (width_after r n c.t + width_after r n c.u) (width_after r n v)
            (ne_eqb v c.s no_s) in let w = some-width n v in omega arith)
      ]

  pub some : (v : ℕ) → 0 < width_number r v
  some v = some-width (steps r) v

  -- Starts

  pub start-t : (d : ℕ) → start_after r (suc d) (step_of r d).t ≡ start_after r d (step_of r d).s
  unfolding start_after
  start-t d = grind (arith, common_steps, cond-true, eq-eqb)

  pub start-u : (d : ℕ) → (step_of r d).t ≢ (step_of r d).u → start_after r (suc d) (step_of r d).u
      ≡ start_after r d (step_of r d).s + width_number r (step_of r d).t
  unfolding start_after
  start-u d n = grind (arith, common_steps, cond-false, cond-true, eq-eqb, ne_eqb)

  pub start-else : (d v : ℕ) → v ≢ (step_of r d).t → v ≢ (step_of r d).u
      → start_after r (suc d) v ≡ start_after r d v
  unfolding start_after
  start-else d v a b = grind (arith, common_steps, cond-false, ne_eqb)

  h : Hierarchy
  h = hierarchy_of r

  -- the vertex that a collapse makes is taken later, if at all
  pub older : (i : ℕ) → i < steps r
      → node_number r (entry_at r i).s < length (left_over r) + 2 * (steps r - suc i)
  older i l =
      let named = run.named i l in
      elim (node_of r run (entry_at r i).s (omega arith)) [
        | stays_left a b c ↦ omega arith
        | as_t j j_lt is c ↦ (let g = ends_given r run j j_lt in omega arith)
        | as_u j j_lt is c ↦ (let g = ends_given r run j j_lt in omega arith)
      ]

  pub widths-are : widths (hierarchy_of r) ≡ map (λ v. width_number r v) (left_over r)
  widths-are = map_map (λ c. c.width) (numbered_root r) (left_over r)

  -- The interval of a node, as soon as it has one
  pub record IsAt (d v : ℕ) : Type 0 where
    pub interval : interval_after (hierarchy_of r) d (node_number r v)
        ≡ record { from = start_after r d v; until = start_after r d v + width_number r v }
    pub within_all : start_after r d v + width_number r v ≤ leaf_count (hierarchy_of r)

  pub is_at : (d v : ℕ) → d ≤ steps r → v < r.vertices + steps r
      → node_number r v < length (left_over r) + 2 * d → IsAt d v
  unfolding interval_after start_after
  is_at zero v l m n =
      grind (
        arith,
        common_steps,
        as_t,
        as_u,
        before-within,
        interval-same,
        root-interval,
        stays_left,
        widths-are,
        node_of r run,
      )
  is_at (suc d) v l m n =
      let i = steps r - suc d in
      let i_lt : i < steps r = omega arith in
      let c = entry_at r i in
      let k = hierarchy_of r in
      let roots = root-count r in
      let named = run.named i i_lt in
      let s_node = older i i_lt in
      let at_s = is_at d c.s (omega arith) (omega arith) (omega arith) in
      let s_is = s-of r d l in
      let s_interval = ap (interval_after k d) s_is ∙ at_s.interval in
      let width_is : (record_at k d).width ≡ width_number r c.t =
      ap (λ x. x.width) (record-at r d l) in
      let both = width-step i i_lt in
      let all = at_s.within_all in
      elim (cases_eq v c.t) [
        | inl is ↦ grind (arith, common_steps, interval-same, interval-t, node-t, start-t)
        | inr not_t ↦
            elim (cases_eq v c.u) [
              | inl is ↦
                  grind (arith, common_steps, interval-same, interval-u, node-u, start-u, t_differs)
              | inr not_u ↦
                  let t_node = node-t r run i i_lt in
                  let u_node = node-u r run i i_lt in
                  let g = ends_given r run i i_lt in
                  let off_t : node_number r v ≢ t_of k d =
                  λ z. not_t (node-once r run v c.t m (omega arith) (omega arith)) in
                  let off_u : node_number r v ≢ u_of k d =
                  λ z. not_u (node-once r run v c.u m (omega arith) (omega arith)) in
                  let old = is_at d v (omega arith) m (omega arith) in
                  let start_is = start-else d v not_t not_u in
                  let all' = old.within_all in
                  record {
                    interval = interval-else k d (node_number r v) off_t off_u ∙ old.interval
                        ∙ interval-same _ _ _ _ (omega arith) (omega arith);
                    within_all = omega arith;
                  }
            ]
      ]

  pub at_end : (v : ℕ) → v < r.vertices + steps r → IsAt (steps r) v
  at_end v l = is_at (steps r) v (omega arith) l (node-there r run v l)

  pub interval-end : (v : ℕ) → v < r.vertices + steps r
      → interval_of (hierarchy_of r) (node_number r v) ≡ record {
        from = leaf_number r v;
        until = leaf_number r v + width_number r v;
      }
  interval-end v l = ap (λ n. interval_after (hierarchy_of r) n (node_number r v)) (count r)
      ∙ (at_end v l).interval

  pub forest : HasForestShape (hierarchy_of r)
  forest = record {
    older = λ k l.
        let c = count r in
        let k_lt : k < steps r = omega arith in
        let o = older (steps r - suc k) (omega arith) in
        let s = s-of r k k_lt in
        let roots = root-count r in
        omega arith;
    once = λ j k l m z.
        let c = count r in
        let j_lt : j < steps r = omega arith in
        let k_lt : k < steps r = omega arith in
        let p = run.named (steps r - suc j) (omega arith) in
        let q = run.named (steps r - suc k) (omega arith) in
        let same = node-once r run (step_of r j).s (step_of r k).s (omega arith) (omega arith)
        (sym (s-of r j j_lt) ∙ z ∙ s-of r k k_lt) in
        omega arith;
    width = λ k l.
        let c = count r in
        let k_lt : k < steps r = omega arith in
        let i = steps r - suc k in
        let i_lt : i < steps r = omega arith in
        let e = entry_at r i in
        let named = run.named i i_lt in
        let is : interval_of (hierarchy_of r) (s_of (hierarchy_of r) k)
        ≡ record { from = leaf_number r e.s; until = leaf_number r e.s + width_number r e.s } =
        ap (interval_of (hierarchy_of r)) (s-of r k k_lt) ∙ interval-end e.s (omega arith) in
        let from_is : (interval_of (hierarchy_of r) (s_of (hierarchy_of r) k)).from
        ≡ leaf_number r e.s = ap (λ x. x.from) is in
        let until_is : (interval_of (hierarchy_of r) (s_of (hierarchy_of r) k)).until
        ≡ leaf_number r e.s + width_number r e.s = ap (λ x. x.until) is in
        let width_is : (record_at (hierarchy_of r) k).width ≡ width_number r e.t =
        ap (λ x. x.width) (record-at r k k_lt) in
        let both = width-step i i_lt in
        let a = some e.t in
        let b = some e.u in
        (omega arith, omega arith);
  }

  pub held : (x : ℕ) → x < r.vertices → Holds (hierarchy_of r) (node_number r x) (leaf_number r x)
  unfolding holds
  held x l = grind (arith, common_steps, interval-end, width-one, within-from)

  pub leaf-there : (x : ℕ) → x < r.vertices → leaf_number r x < leaf_count (hierarchy_of r)
  leaf-there x l = let a = (at_end x (omega arith)).within_all in let w =
      width-one x l in omega arith

  -- every leaf is an input vertex's
  pub leaf-back : (y : ℕ) → y < leaf_count (hierarchy_of r) → (x : ℕ) × (x < r.vertices)
      × (leaf_number r x ≡ y)
  unfolding holds
  leaf-back y l =
      let k = hierarchy_of r in
      let T = below (steps r) in
      let n = ancestor_of k T y in
      let active = active-ancestor k forest T y l in
      let c = count r in
      let roots = root-count r in
      let n_lt = there-lt k forest T n active.0 in
      let (v, v_lt, v_is) = node-back r run n (omega arith) in
      elim (cases_lt v r.vertices) [
        | inl a ↦
            let w = width-one v a in
            let e = holds-ancestor_of k forest T y l in
            let p = within-true _ y
            (subst (λ i. within i y ≡ true) (ap (interval_of k) (sym v_is)
            ∙ interval-end v v_lt) e) in
            (v, a, omega arith)
        | inr a ↦
            let i = v - r.vertices in
            let i_lt : i < steps r = omega arith in
            let j = steps r - suc i in
            let j_lt : j < steps r = omega arith in
            let named = run.named i i_lt in
            let back : steps r - suc j ≡ i = omega arith in
            let is : v ≡ (step_of r j).s = grind (arith, common_steps) in
            absurd (active.1 j (omega arith) (lt-ltb j (steps r) j_lt) (s-of r j j_lt
            ∙ ap (node_number r) (sym is) ∙ v_is))
      ]
