-- The places and the input numbers of a run's nodes, and the node of each leaf.
use Rattle.std.proofs.Common.{zero, suc, ◌≡◌, ℕ, ◌+◌, ◌-◌, ◌<◌, ◌≤◌, ltb, [], length, get_or}
use Rattle.std.proofs.lemmas.Grind.{common_steps}
use Rattle.std.proofs.Common.{refl, sym, ap, ◌∙◌, arith}
use Rattle.std.proofs.lemmas.Bool.{lt-ltb, le-ltb, cond-true, cond-false}
use Rattle.std.proofs.lemmas.List.{get_or-map, get_or_default}
use Rattle.pm_base.specs.Place.{place_of}
use Rattle.pm_forest.specs.declared.parts.Root.{Root}
use Rattle.pm_forest.specs.declared.parts.Record.{Record}
use Rattle.pm_forest.specs.Forest.{Hierarchy, record_at, record_count, t_of, u_of}
use Rattle.pm_forest.specs.Fronts.{ancestor_after, below, every}
use Rattle.pm_forest.specs.Places.{no_root, place_of_node}
use Rattle.pm_forest.specs.Tables.{leaf_node_of}
use Rattle.pm_forest.specs.Meshes.{input_of_node, leaf_place, leaf_input}
use Rattle.pm_forest.proofs.HierarchyLaws.{place-root, place-t, place-u}
use Rattle.pm_forest.proofs.InputLaws.{input-root, input-t, input-u}
use Rattle.pm_number.specs.Stages.{Run, steps, entry_at, IsMerging}
use Rattle.pm_number.specs.Numbering.{place_in, left_over, node_number, leaf_number, place_number}
use Rattle.pm_number.specs.Numbering.{input_number, numbered_root, hierarchy_of}
use Rattle.pm_number.proofs.Positions.{at_place}
use Rattle.pm_number.proofs.NodeNumbers.{stays_left, as_t, as_u, node_of, root-count, count}
use Rattle.pm_number.proofs.NodeNumbers.{record-at}
use Rattle.pm_number.proofs.Stages.{leaf-node}
use Rattle.pm_number.proofs.Whole.{numbered}

-- The places of a record's children

place-at_t : (h : Hierarchy) (k : ℕ) → place_of_node h (t_of h k) ≡ (record_at h k).t.place
place-at_t h k = grind (arith, common_steps, place-t h (t_of h k))

place-at_u : (h : Hierarchy) (k : ℕ) → place_of_node h (u_of h k) ≡ (record_at h k).u.place
place-at_u h k = grind (arith, common_steps, place-u h (u_of h k))

-- the records below their number are all
every-below : (h : Hierarchy) (k n x : ℕ) → n ≤ k
    → ancestor_after h every n x ≡ ancestor_after h (below k) n x
unfolding ancestor_after
every-below h k zero x l = refl
every-below h k (suc n) x l =
    rw (every-below h k n x (omega arith), lt-ltb n k (omega arith)) refl

module _ (r : Run) (run : IsMerging r) where
  root-at : (v : ℕ) → place_in v (left_over r) < length (left_over r)
      → get_or (hierarchy_of r).roots (place_in v (left_over r)) no_root ≡ numbered_root r v
  root-at v l = get_or-map (numbered_root r) (left_over r) (place_in v (left_over r)) 0 no_root l
      ∙ ap (numbered_root r) (at_place v 0 (left_over r) l)

  step-back : (i : ℕ) → i < steps r → steps r - suc (steps r - suc i) ≡ i
  step-back i l = omega arith

  pub node-place : (v : ℕ) → v < r.vertices + steps r
      → place_of_node (hierarchy_of r) (node_number r v) ≡ place_number r v
  node-place v l =
      let h = hierarchy_of r in
      let roots = root-count r in
      elim (node_of r run v l) [
        | stays_left free place is ↦
            let here = get_or h.roots (node_number r v) no_root in
            ap (place_of_node h) is
            ∙ sym (place-root h (place_in v (left_over r)) (numbered_root r v) (omega arith)
            (sym (root-at v place)
            ∙ get_or_default h.roots (place_in v (left_over r)) no_root (numbered_root r v)
            (omega arith)))
        | as_t i i_lt v_is is ↦
            let k = steps r - suc i in
            let node : node_number r v ≡ t_of h k = omega arith in
            ap (place_of_node h) node ∙ place-at_t h k
            ∙ ap (λ (x : Record). x.t.place) (record-at r k (omega arith))
            ∙ ap (λ j. place_number r (entry_at r j).t) (step-back i i_lt)
            ∙ ap (place_number r) (sym v_is)
        | as_u i i_lt v_is is ↦
            let k = steps r - suc i in
            let node : node_number r v ≡ u_of h k = omega arith in
            ap (place_of_node h) node ∙ place-at_u h k
            ∙ ap (λ (x : Record). x.u.place) (record-at r k (omega arith))
            ∙ ap (λ j. place_number r (entry_at r j).u) (step-back i i_lt)
            ∙ ap (place_number r) (sym v_is)
      ]

  pub node-input : (v : ℕ) → v < r.vertices + steps r
      → input_of_node (hierarchy_of r) (node_number r v) ≡ input_number r v
  node-input v l =
      let h = hierarchy_of r in
      let roots = root-count r in
      let records = count r in
      elim (node_of r run v l) [
        | stays_left free place is ↦
            ap (input_of_node h) is ∙ input-root h (place_in v (left_over r)) (omega arith)
            ∙ ap (λ (x : Root). x.input) (root-at v place)
        | as_t i i_lt v_is is ↦
            let k = steps r - suc i in
            let node : node_number r v ≡ t_of h k = omega arith in
            ap (input_of_node h) node ∙ input-t h k (omega arith)
            ∙ ap (λ (x : Record). x.t.input) (record-at r k (omega arith))
            ∙ ap (λ j. input_number r (entry_at r j).t) (step-back i i_lt)
            ∙ ap (input_number r) (sym v_is)
        | as_u i i_lt v_is is ↦
            let k = steps r - suc i in
            let node : node_number r v ≡ u_of h k = omega arith in
            ap (input_of_node h) node ∙ input-u h k (omega arith)
            ∙ ap (λ (x : Record). x.u.input) (record-at r k (omega arith))
            ∙ ap (λ j. input_number r (entry_at r j).u) (step-back i i_lt)
            ∙ ap (input_number r) (sym v_is)
      ]

  -- an input vertex's leaf has the vertex's node
  pub leaf_node-is : (x : ℕ) → x < r.vertices → leaf_node_of (hierarchy_of r) (leaf_number r x)
      ≡ node_number r x
  leaf_node-is x l =
      let h = hierarchy_of r in
      let y = leaf_number r x in
      every-below h (record_count h) (record_count h) y (omega arith)
      ∙ leaf-node r h (node_number r) (leaf_number r) _ run (numbered r run) x (record_count h)
      (count r) l

  pub input-first : (x : ℕ) → x < r.vertices → input_number r x ≡ x + 1
  unfolding input_number
  input-first x l = cond-true (ltb x r.vertices) (x + 1) 0 (lt-ltb x r.vertices l)

  pub input-later : (v : ℕ) → r.vertices ≤ v → input_number r v ≡ 0
  unfolding input_number
  input-later v l = cond-false (ltb v r.vertices) (v + 1) 0 (le-ltb v r.vertices l)

  pub leaf-input : (x : ℕ) → x < r.vertices → leaf_input (hierarchy_of r) (leaf_number r x) ≡ x + 1
  leaf-input x l =
      ap (input_of_node (hierarchy_of r)) (leaf_node-is x l) ∙ node-input x (omega arith)
      ∙ input-first x l

  pub leaf-place : (x : ℕ) → x < r.vertices → leaf_place (hierarchy_of r) (leaf_number r x)
      ≡ get_or r.points x (place_of [])
  unfolding place_number
  leaf-place x l =
      ap (place_of_node (hierarchy_of r)) (leaf_node-is x l) ∙ node-place x (omega arith)
      ∙ cond-true (ltb x r.vertices) _ _ (lt-ltb x r.vertices l)
