-- The roots and the heads of the records of a run's hierarchy pass the rules of shape.
use Rattle.std.proofs.Common.{suc, ◌≡◌, ℕ, ◌+◌, ◌-◌, ◌*◌, ◌<◌, ◌≤◌, true, false, List, [], ◌∷◌}
use Rattle.std.proofs.lemmas.Grind.{common_steps}
use Rattle.std.proofs.Common.{◌++◌, length, sum, get_or, take, Option, None, Some, is_some, is_none}
use Rattle.std.proofs.Common.{inl, inr, refl, sym, ap, ◌∙◌, arith}
use Rattle.std.proofs.lemmas.Bool.{cases_lt, false≢true}
use Rattle.std.proofs.lemmas.List.{length-map, length_push, length-take-le, get_or-map, get_or-take}
use Rattle.std.proofs.lemmas.List.{get_or_append_left, get_or_push, take-map, nil_from_length}
use Rattle.pm_base.specs.Place.{is_place}
use Rattle.pm_base.specs.Counts.{one_if}
use Rattle.pm_base.specs.declared.log.Gone.{Gone}
use Rattle.pm_base.proofs.Search.{option_cases}
use Rattle.pm_forest.specs.declared.parts.Root.{Root}
use Rattle.pm_forest.specs.declared.parts.Record.{Record}
use Rattle.pm_forest.specs.Forest.{Hierarchy, record_at, record_count, leaf_count, widths}
use Rattle.pm_forest.specs.Forest.{widths_of, s_of, interval_of, splitter_of}
use Rattle.pm_forest.specs.Faces.{first_face}
use Rattle.pm_forest.specs.Places.{no_root}
use Rattle.pm_forest.specs.Rules.{root_inputs, node_inputs, counts_are_bad, width_is_bad}
use Rattle.pm_forest.specs.Rules.{root_fault, presence_is_bad, head_of, head_fault, counts_of}
use Rattle.pm_forest.specs.Shaping.{SplitFits}
use Rattle.pm_forest.specs.Meshes.{input_of_node}
use Rattle.pm_forest.proofs.Nodes.{interval-kept, splitter_of-splits}
use Rattle.pm_forest.proofs.Prefix.{cut, record_count-cut, s_of-cut, interval_of-cut}
use Rattle.pm_forest.proofs.FaceNumbers.{first_face-mono}
use Rattle.pm_forest.proofs.InputLaws.{node_inputs-length, input-root, input-cut}
use Rattle.pm_number.specs.Stages.{Run, steps, entry_at, net_of_run_after, IsGone, IsMerging}
use Rattle.pm_number.specs.Numbering.{left_over, step_of, node_number, width_number}
use Rattle.pm_number.specs.Numbering.{leaf_number, place_number, input_number, numbered_root}
use Rattle.pm_number.specs.Numbering.{hierarchy_of}
use Rattle.pm_number.proofs.RunLaws.{ends_given}
use Rattle.pm_number.proofs.Positions.{picked-at}
use Rattle.pm_number.proofs.NodeNumbers.{none-left, node-t, node-u, node-there, node-back}
use Rattle.pm_number.proofs.NodeNumbers.{root-count, count, record-at, s-of}
use Rattle.pm_number.proofs.LeafNumbers.{width-step, width-one, some, interval-end, forest}
use Rattle.pm_number.proofs.RunCounts.{node-count, face-count, leaf-number-count}
use Rattle.pm_number.proofs.NodeParts.{node-input, input-first, input-later}
use Rattle.pm_number.proofs.UnitsPass.{unused-from, widths_fit, counts_pass, width_pass}
use Rattle.pm_number.proofs.UnitsPass.{InputPasses, input_pass, root_pass, split_pass, head_pass}
use Rattle.pm_number.proofs.NumberedFaces.{numbered-some}

module _ (r : Run) (run : IsMerging r) where
  abbrev h : Hierarchy
  h = hierarchy_of r

  -- Counts

  pub base_count-le : length (hierarchy_of r).bases ≤ r.net.faces
  unfolding first_face
  base_count-le = let all = first_face-mono h 0 (record_count h) (omega arith) in let is =
      face-count r run in omega arith

  no_leaves : length (hierarchy_of r).roots ≡ 0 → leaf_count (hierarchy_of r) ≡ 0
  no_leaves none =
      ap (λ (rs : List Root). sum (widths_of rs)) (nil_from_length (hierarchy_of r).roots none)

  pub counts_fit : r.vertices ≤ 1048576 → r.net.faces ≤ 1048576
      → counts_are_bad (counts_of (hierarchy_of r)) ≡ false
  counts_fit few few_faces =
      grind (
        arith,
        common_steps,
        base_count-le,
        count,
        counts_pass,
        leaf-number-count,
        no_leaves,
        node-count,
        root-count,
      )

  -- Input numbers

  -- the number of a vertex passes, after those of older nodes
  pub vertex_passes : (v : ℕ) (used : List ℕ) → v < r.vertices + steps r
      → length used ≤ node_number r v →
      ((k : ℕ) → k < length used → get_or used k 0 ≡ input_of_node (hierarchy_of r) k) →
      InputPasses (leaf_count (hierarchy_of r)) used (width_number r v) (input_number r v)
  vertex_passes v used l older_used are =
      let leaves = leaf-number-count r run in
      elim (cases_lt v r.vertices) [
        | inl first ↦
            let number = input-first r run v first in
            inl (
              width-one r run v first,
              omega arith,
              omega arith,
              unused-from used (input_number r v) (λ k m same.
                  let top = node-there r run v l in
                  let (w, w_lt, w_is) = node-back r run k (omega arith) in
                  let other : input_number r w ≡ v + 1 = grind (arith, common_steps, node-input) in
                  elim (cases_lt w r.vertices) [
                    | inl a ↦ (let its = input-first r run w a in let one : w ≡ v =
                        omega arith in let node = ap (node_number r) one in omega arith)
                    | inr a ↦ (let its = input-later r run w a in omega arith)
                  ]),
            )
        | inr later ↦
            let i = v - r.vertices in
            let i_lt : i < steps r = omega arith in
            let named : (entry_at r i).s ≡ v = (let n = run.named i i_lt in omega arith) in
            let both = width-step r run i i_lt in
            let t = some r run (entry_at r i).t in
            let u = some r run (entry_at r i).u in
            let is = ap (width_number r) named in
            inr (λ one. omega arith, input-later r run v later)
      ]

  -- Roots

  pub root_vertex : (i : ℕ) → i < length (left_over r) → let v = get_or (left_over r) i 0 in
      (v < r.vertices + steps r) × (node_number r v ≡ i)
      × (get_or (hierarchy_of r).roots i no_root ≡ numbered_root r v)
  unfolding left_over
  root_vertex i l =
      grind (
        arith,
        common_steps,
        false≢true,
        get_or,
        get_or-map,
        is_none,
        none-left,
        option_cases,
        picked-at,
      )

  wide : (i : ℕ) → i < length (widths (hierarchy_of r)) → 0 < get_or (widths (hierarchy_of r)) i 0
  wide i l =
      let roots = root-count r in
      let len = length-map h.roots (λ (q : Root). q.width) in
      let v = get_or (left_over r) i 0 in
      let is = root_vertex i (omega arith) in
      let width : get_or (widths h) i 0 ≡ width_number r v =
      get_or-map (λ (q : Root). q.width) h.roots i no_root 0 (omega arith)
      ∙ ap (λ (q : Root). q.width) is.2 in
      let positive = some r run v in
      omega arith

  pub root_fits : (i : ℕ) → i < length (left_over r)
      → is_place (place_number r (get_or (left_over r) i 0)) ≡ true →
      root_fault (counts_of (hierarchy_of r)) (take i (hierarchy_of r).roots)
      (get_or (hierarchy_of r).roots i no_root) ≡ None
  root_fits i l place =
      let c = counts_of h in
      let v = get_or (left_over r) i 0 in
      let before = take i h.roots in
      let roots = root-count r in
      let (v_lt, node, is) = root_vertex i l in
      let i_lt : i < length h.roots = omega arith in
      let len = length-take-le i h.roots (omega arith) in
      let all = length-map h.roots (λ (q : Root). q.width) in
      let widths_are : widths_of before ≡ take i (widths h) =
      sym (take-map (λ (q : Root). q.width) i h.roots) in
      let fits = widths_fit (widths h) i wide (omega arith) in
      let here : get_or (widths h) i 0 ≡ width_number r v =
      get_or-map (λ (q : Root). q.width) h.roots i no_root 0 i_lt
      ∙ ap (λ (q : Root). q.width) is in
      let taken = ap sum widths_are in
      let width : width_is_bad c (sum (widths_of before)) (length before) (width_number r v)
      ≡ false =
      width_pass c (sum (widths_of before)) (length before) (width_number r v) (some r run v)
      (let room = fits.0 in omega arith)
      (λ last. (let ends = fits.1 (omega arith) in omega arith)) in
      let used = root_inputs before in
      let used_len = length-map before (λ (q : Root). q.input) in
      let input = input_pass (leaf_count h) used (width_number r v) (input_number r v)
      (vertex_passes v used v_lt (omega arith) (λ k m.
      get_or-map (λ (q : Root). q.input) before k no_root 0 (omega arith)
      ∙ ap (λ (q : Root). q.input) (get_or-take i h.roots k no_root (omega arith))
      ∙ sym (input-root h k (omega arith)))) in
      rw is (root_pass c before (numbered_root r v) place width input)

  -- Records

  module _ (k : ℕ) (l : k < steps r) where
    i : ℕ
    i = steps r - suc k

    split_fits : SplitFits (cut (hierarchy_of r) k) (s_of (hierarchy_of r) k)
        (record_at (hierarchy_of r) k).width
    split_fits =
        let nodes = forest r run in
        let all = count r in
        let k_lt : k < record_count h = omega arith in
        let cut_count = record_count-cut h k (omega arith) in
        let there = nodes.older k k_lt in
        let same : interval_of (cut h k) (s_of h k) ≡ interval_of h (s_of h k) =
        interval_of-cut h k (s_of h k) (omega arith)
        ∙ sym (interval-kept h k (record_count h) (s_of h k) (omega arith) there) in
        let wide_enough = nodes.width k k_lt in
        record {
          node = omega arith;
          unsplit = elim (option_cases (splitter_of (cut h k) (s_of h k))) [
            | inl none ↦ none
            | inr (j, found) ↦
                let p = splitter_of-splits (cut h k) j (s_of h k) found in
                let j_lt : j < k = (let m = p.1 in omega arith) in
                absurd (nodes.once j k j_lt k_lt (sym (s_of-cut h k j j_lt) ∙ p.0))
          ];
          first = wide_enough.0;
          rest = rw same wide_enough.1;
        }

    some_face : (g g' : Option Gone)
        → IsGone (net_of_run_after r (steps r - suc k)) (step_of r k).t (step_of r k).u g
        → IsGone (net_of_run_after r (steps r - suc k)) (step_of r k).u (step_of r k).t g' →
        presence_is_bad (one_if (is_some g) + 2 * one_if (is_some g')) ≡ false
    some_face None None left right =
        absurd (elim (run.linkable (steps r - suc k) (omega arith)).joined
        [ inl a ↦ left a | inr a ↦ right a ])
    some_face None (Some g') left right = refl
    some_face (Some g) None left right = refl
    some_face (Some g) (Some g') left right = refl

    pub presence_fits : presence_is_bad (head_of (record_at (hierarchy_of r) k)).presence ≡ false
    presence_fits = grind (arith, common_steps, is_some, numbered-some, record-at, some_face)

    -- the numbers of the nodes before
    used_are : (j : ℕ) → j < length (node_inputs (cut (hierarchy_of r) k))
        → get_or (node_inputs (cut (hierarchy_of r) k)) j 0 ≡ input_of_node (hierarchy_of r) j
    used_are j m =
        let all = count r in
        let len = node_inputs-length (cut h k) in
        let cut_count = record_count-cut h k (omega arith) in
        input-cut h k j (omega arith) (omega arith)

    pub head_fits : is_place (place_number r (step_of r k).t) ≡ true
        → is_place (place_number r (step_of r k).u) ≡ true →
        head_fault (cut (hierarchy_of r) k) (head_of (record_at (hierarchy_of r) k)) ≡ None
    unfolding s_of
    head_fits place_t place_u =
        let c = step_of r k in
        let x = record_at h k in
        let g = cut h k in
        let is = record-at r k l in
        let all = count r in
        let roots = root-count r in
        let j = steps r - suc k in
        let j_lt : j < steps r = omega arith in
        let back : steps r - suc j ≡ k = omega arith in
        let used = node_inputs g in
        let len = node_inputs-length g in
        let cut_count = record_count-cut h k (omega arith) in
        let node_t = node-t r run j j_lt in
        let node_u = node-u r run j j_lt in
        let given = run.named j j_lt in
        let nodes = forest r run in
        let there = nodes.older k (omega arith) in
        let t_lt : c.t < r.vertices + steps r =
        (let e = ends_given r run j j_lt in let a = e.0 in omega arith) in
        let u_lt : c.u < r.vertices + steps r =
        (let e = ends_given r run j j_lt in let a = e.1 in omega arith) in
        let width : x.width ≡ width_number r c.t = ap (λ (y : Record). y.width) is in
        let t_number : x.t.input ≡ input_number r c.t = ap (λ (y : Record). y.t.input) is in
        let u_number : x.u.input ≡ input_number r c.u = ap (λ (y : Record). y.u.input) is in
        let t_place : x.t.place ≡ place_number r c.t = ap (λ (y : Record). y.t.place) is in
        let u_place : x.u.place ≡ place_number r c.u = ap (λ (y : Record). y.u.place) is in
        let same : interval_of g (s_of h k) ≡ interval_of h (s_of h k) =
        interval_of-cut h k (s_of h k) (omega arith)
        ∙ sym (interval-kept h k (record_count h) (s_of h k) (omega arith) there) in
        let ends : interval_of h (s_of h k) ≡ record {
          from = leaf_number r c.s;
          until = leaf_number r c.s + width_number r c.s;
        } =
        ap (interval_of h) (s-of r k l) ∙ interval-end r run c.s (omega arith) in
        let from = ap (λ z. z.from) (same ∙ ends) in
        let until = ap (λ z. z.until) (same ∙ ends) in
        let both = width-step r run j j_lt in
        let rest : (interval_of g x.s).until - (interval_of g x.s).from - x.width
        ≡ width_number r c.u = omega arith in
        let first_passes = vertex_passes c.t used t_lt (omega arith) used_are in
        let second_passes =
        vertex_passes c.u (used ++ input_number r c.t ∷ []) u_lt
        (omega (arith, length_push used (input_number r c.t)))
        (λ n m. elim (cases_lt n (length used)) [
          | inl a ↦ get_or_append_left used (input_number r c.t ∷ []) 0 n a ∙ used_are n a
          | inr a ↦ grind (arith, common_steps, get_or_push, length_push, node-input)
        ]) in
        head_pass g (head_of x) (split_pass g (s_of h k) x.width split_fits) presence_fits
        (rw t_place place_t) (rw u_place place_u)
        (rw (width, t_number)
        (input_pass (leaf_count h) used (width_number r c.t) (input_number r c.t) first_passes))
        (rw (rest, t_number, u_number)
        (input_pass (leaf_count h) (used ++ input_number r c.t ∷ []) (width_number r c.u)
        (input_number r c.u) second_passes))
