-- Input numbers: no two leaves have the same one, and no two faces, so each number is that of one
-- of them.
use Rattle.std.proofs.Common.{◌≡◌, ◌≢◌, ℕ, zero, suc, ◌+◌, ◌-◌, ◌*◌, ◌/◌, ◌%◌, ◌<◌, ◌≤◌, eqb}
use Rattle.std.proofs.Common.{false, not, List, [], ◌∷◌, ◌++◌, length, get_or, take, drop}
use Rattle.std.proofs.Common.{None, inl, inr, refl, sym, ap, ◌∙◌, arith, append_assoc}
use Rattle.std.proofs.lemmas.Bool.{cases_lt, eqb-false, eq-eqb, ltb-false, or_parts}
use Rattle.std.proofs.lemmas.Bool.{cond-true}
use Rattle.std.proofs.lemmas.List.{length-map, length-append, length-take-le, get_or_append_left}
use Rattle.std.proofs.lemmas.List.{get_or-append_right, get_or_push, get_or-map, get_or-take}
use Rattle.std.proofs.lemmas.List.{get_or_default, length_push, take-append-drop}
use Rattle.std.proofs.lemmas.Grind.{flat_map-append, common_steps}
use Rattle.std.specs.List.{flat_map}
use Rattle.pm_base.specs.Place.{is_place}
use Rattle.pm_forest.specs.declared.parts.Counts.{Counts}
use Rattle.pm_forest.specs.declared.parts.Root.{Root}
use Rattle.pm_forest.specs.declared.parts.Head.{Head}
use Rattle.pm_forest.specs.declared.parts.Record.{Record}
use Rattle.pm_forest.specs.Marks.{is_used}
use Rattle.pm_forest.specs.Forest.{Hierarchy, no_record, record_at, record_count, node_count}
use Rattle.pm_forest.specs.Forest.{leaf_count, s_of, t_of, u_of, root_interval, interval_of}
use Rattle.pm_forest.specs.Places.{no_root}
use Rattle.pm_forest.specs.Rules.{root_inputs, child_inputs, node_inputs, vertex_input_is_bad}
use Rattle.pm_forest.specs.Rules.{width_is_bad, root_fault, head_of, head_is_bad, children_fault}
use Rattle.pm_forest.specs.Rules.{head_fault, counts_of, HasShape}
use Rattle.pm_forest.specs.Tables.{IsSingle, leaf_node_of}
use Rattle.pm_forest.specs.Meshes.{input_of_node, leaf_input}
use Rattle.pm_forest.proofs.Nodes.{interval-kept, interval_of-t, interval_of-u, has_maker}
use Rattle.pm_forest.proofs.Prefix.{cut, record_count-cut, interval_of-cut}
use Rattle.pm_forest.proofs.UnitLaws.{AllFit-at, passed}
use Rattle.pm_forest.proofs.ShapeLaws.{record_fits, shape_of_nodes}
use Rattle.pm_forest.proofs.FaceLimits.{leaf_nodes_of_shape}
use Rattle.pm_forest.proofs.HierarchyLaws.{root_is, leaf_node-alone, leaf_node-lt}

-- a number that isn't used is at no place of the list
pub unused : (used : List ℕ) (n k : ℕ) → is_used used n ≡ false → k < length used
    → get_or used k 0 ≢ n
unused [] n k none l = absurd (omega arith)
unused (m ∷ used) n zero none l = eqb-false m n (or_parts (eqb m n) (is_used used n) none).0
unused (m ∷ used) n (suc k) none l = unused used n k (or_parts (eqb m n) (is_used used n) none).1
    (omega arith)

-- The input numbers of the nodes as a list

child_inputs-length : (rs : List Record) → length (flat_map child_inputs rs) ≡ 2 * length rs
child_inputs-length [] = refl
child_inputs-length (r ∷ rs) = omega (arith, child_inputs-length rs)

child_inputs-t : (rs : List Record) (k : ℕ) → k < length rs
    → get_or (flat_map child_inputs rs) (2 * k) 0 ≡ (get_or rs k no_record).t.input
child_inputs-t [] k l = absurd (omega arith)
child_inputs-t (r ∷ rs) zero l = refl
child_inputs-t (r ∷ rs) (suc k) l = let two : 2 * suc k ≡ suc (suc (2 * k)) =
    omega arith in rw two (child_inputs-t rs k (omega arith))

child_inputs-u : (rs : List Record) (k : ℕ) → k < length rs
    → get_or (flat_map child_inputs rs) (2 * k + 1) 0 ≡ (get_or rs k no_record).u.input
child_inputs-u [] k l = absurd (omega arith)
child_inputs-u (r ∷ rs) zero l = refl
child_inputs-u (r ∷ rs) (suc k) l = let two : 2 * suc k + 1 ≡ suc (suc (2 * k + 1)) =
    omega arith in rw two (child_inputs-u rs k (omega arith))

pub node_inputs-length : (h : Hierarchy) → length (node_inputs h) ≡ node_count h
node_inputs-length h = grind (arith, common_steps, child_inputs-length, length-append, length-map)

pub input-root : (h : Hierarchy) (v : ℕ) → v < length h.roots
    → input_of_node h v ≡ (get_or h.roots v no_root).input
unfolding input_of_node
input-root h v l = grind (arith, common_steps, get_or-map, get_or_append_left, length-map)

pub input-t : (h : Hierarchy) (k : ℕ) → k < record_count h
    → input_of_node h (t_of h k) ≡ (record_at h k).t.input
unfolding input_of_node
input-t h k l =
    let place : t_of h k - length h.roots ≡ 2 * k = omega arith in
    get_or-append_right (root_inputs h.roots) (flat_map child_inputs h.records) (length h.roots)
    (t_of h k) 0 (length-map h.roots (λ r. r.input)) (omega arith)
    ∙ ap (λ i. get_or (flat_map child_inputs h.records) i 0) place
    ∙ child_inputs-t h.records k l

pub input-u : (h : Hierarchy) (k : ℕ) → k < record_count h
    → input_of_node h (u_of h k) ≡ (record_at h k).u.input
unfolding input_of_node
input-u h k l =
    let place : u_of h k - length h.roots ≡ 2 * k + 1 = omega arith in
    get_or-append_right (root_inputs h.roots) (flat_map child_inputs h.records) (length h.roots)
    (u_of h k) 0 (length-map h.roots (λ r. r.input)) (omega arith)
    ∙ ap (λ i. get_or (flat_map child_inputs h.records) i 0) place
    ∙ child_inputs-u h.records k l

-- what the parts of a hierarchy say of a node's input number

pub read-root : (h : Hierarchy) (v : ℕ) (r : Root) → v < length h.roots → r ≡ get_or h.roots v r
    → r.input ≡ input_of_node h v
read-root h v r l is =
    ap (λ (q : Root). q.input) (is ∙ get_or_default h.roots v r no_root l) ∙ sym (input-root h v l)

pub read-t : (h : Hierarchy) (v : ℕ) → length h.roots ≤ v → (v - length h.roots) % 2 ≡ 0
    → v < node_count h →
    (record_at h ((v - length h.roots) / 2)).t.input ≡ input_of_node h v
read-t h v l even m = grind (arith, common_steps, input-t h)

pub read-u : (h : Hierarchy) (v : ℕ) → length h.roots ≤ v → (v - length h.roots) % 2 ≢ 0
    → v < node_count h →
    (record_at h ((v - length h.roots) / 2)).u.input ≡ input_of_node h v
read-u h v l odd m = grind (arith, common_steps, input-u h)

-- the nodes of the first k records
inputs_of-cut : (h : Hierarchy) (k : ℕ) → node_inputs h ≡ node_inputs (cut h k)
    ++ flat_map child_inputs (drop k h.records)
inputs_of-cut h k =
    ap (λ rs. root_inputs h.roots ++ flat_map child_inputs rs) (sym (take-append-drop k h.records))
    ∙ ap (λ ns. root_inputs h.roots ++ ns)
    (flat_map-append child_inputs (take k h.records) (drop k h.records))
    ∙ sym (append_assoc (root_inputs h.roots) (flat_map child_inputs (take k h.records))
    (flat_map child_inputs (drop k h.records)))

pub input-cut : (h : Hierarchy) (k v : ℕ) → k ≤ record_count h → v < t_of h k
    → get_or (node_inputs (cut h k)) v 0 ≡ input_of_node h v
unfolding input_of_node
input-cut h k v l m =
    sym (ap (λ ns. get_or ns v 0) (inputs_of-cut h k)
    ∙ get_or_append_left (node_inputs (cut h k)) (flat_map child_inputs (drop k h.records)) 0 v
    (omega (arith, node_inputs-length (cut h k), record_count-cut h k l)))

-- Nodes of one leaf

-- What is right with the input number of a node of one leaf.
pub record InputFits (h : Hierarchy) (v : ℕ) : Type 0 where
  pub some : 0 < input_of_node h v
  pub most : input_of_node h v ≤ leaf_count h
  pub fresh : (w : ℕ) → w < v → input_of_node h w ≢ input_of_node h v

input_fits : (leaves : ℕ) (used : List ℕ) (width input : ℕ)
    → vertex_input_is_bad leaves used width input ≡ false → width ≡ 1 →
    (0 < input) × (input ≤ leaves) × (is_used used input ≡ false)
unfolding vertex_input_is_bad
input_fits leaves used width input fits one =
    grind (arith, common_steps, cond-true, eq-eqb, eqb-false, ltb-false, or_parts)

root_width : (ws : List ℕ) (start v : ℕ) → v < length ws
    → (root_interval ws start v).until ≡ (root_interval ws start v).from + get_or ws v 0
root_width [] start v l = absurd (omega arith)
root_width (w ∷ ws) start zero l = refl
root_width (w ∷ ws) start (suc v) l = root_width ws (start + w) v (omega arith)

-- how the rules judge the input numbers of a root, and of a record's children
root_judged : (c : Counts) (before : List Root) (r : Root) → root_fault c before r ≡ None →
    vertex_input_is_bad c.leaves (root_inputs before) r.width r.input ≡ false
unfolding root_fault
root_judged c before r fits =
    (passed (vertex_input_is_bad c.leaves (root_inputs before) r.width r.input) _ _
    (passed (width_is_bad c _ _ r.width) _ _ (passed (not (is_place r.place)) _ _ fits).1).1).0

children_judged : (h : Hierarchy) (d : Head) → children_fault h d ≡ None →
    (vertex_input_is_bad (leaf_count h) (node_inputs h) d.width d.t_input ≡ false)
    × (vertex_input_is_bad (leaf_count h) (node_inputs h ++ d.t_input ∷ [])
    ((interval_of h d.s).until - (interval_of h d.s).from - d.width) d.u_input ≡ false)
unfolding children_fault
children_judged h d fits = grind (arith, common_steps, passed)

module _ (h : Hierarchy) (shape : HasShape h) where
  root_fits : (v : ℕ) → v < length h.roots → IsSingle (interval_of h v) → InputFits h v
  root_fits v l single =
      let r = get_or h.roots v no_root in
      let c = counts_of h in
      let fits : root_fault c (take v h.roots) r ≡ None =
      AllFit-at (root_fault c) [] h.roots v r shape.roots l
      (get_or_default h.roots v no_root r l) in
      let judged = root_judged c (take v h.roots) r fits in
      let width : r.width ≡ 1 =
      grind (arith, common_steps, get_or-map, length-map, root_is, root_width) in
      let p = input_fits (leaf_count h) (root_inputs (take v h.roots)) r.width r.input judged
      width in
      let here = input-root h v l in
      record {
        some = rw here p.0;
        most = rw here p.1;
        fresh = λ w m same.
            let earlier = root_inputs (take v h.roots) in
            let len : w < length earlier =
            grind (arith, common_steps, length-map, length-take-le) in
            let read : get_or earlier w 0 ≡ input_of_node h w =
            get_or-map (λ (q : Root). q.input) (take v h.roots) w no_root 0
            (omega (arith, length-take-le v h.roots (omega arith)))
            ∙ ap (λ (q : Root). q.input) (get_or-take v h.roots w no_root m)
            ∙ sym (input-root h w (omega arith)) in
            unused earlier r.input w p.2 len (read ∙ same ∙ here);
      }

  children_fit : (k : ℕ) → k < record_count h → children_fault (cut h k) (head_of (record_at h k))
      ≡ None
  unfolding head_fault
  children_fit k l =
      (passed (head_is_bad (cut h k) (head_of (record_at h k))) _ _
      (record_fits h shape k l).head).1

  t_fits : (k : ℕ) → k < record_count h → IsSingle (interval_of h (t_of h k))
      → InputFits h (t_of h k)
  t_fits k l single =
      let r = record_at h k in
      let judged = (children_judged (cut h k) (head_of r) (children_fit k l)).0 in
      let is = interval_of-t h (shape_of_nodes h shape) k l in
      let from = ap (λ i. i.from) is in
      let until = ap (λ i. i.until) is in
      let p = input_fits (leaf_count h) (node_inputs (cut h k)) r.width r.t.input judged
      (omega arith) in
      let here = input-t h k l in
      record {
        some = rw here p.0;
        most = rw here p.1;
        fresh = λ w m same.
            let len : w < length (node_inputs (cut h k)) =
            omega (arith, node_inputs-length (cut h k), record_count-cut h k (omega arith)) in
            unused (node_inputs (cut h k)) r.t.input w p.2 len (input-cut h k w (omega arith) m
            ∙ same ∙ here);
      }

  u_fits : (k : ℕ) → k < record_count h → IsSingle (interval_of h (u_of h k))
      → InputFits h (u_of h k)
  unfolding s_of
  u_fits k l single =
      let r = record_at h k in
      let before = node_inputs (cut h k) in
      let nodes = shape_of_nodes h shape in
      let judged = (children_judged (cut h k) (head_of r) (children_fit k l)).1 in
      let is = interval_of-u h nodes k l in
      let from = ap (λ i. i.from) is in
      let until = ap (λ i. i.until) is in
      let parent : interval_of (cut h k) (s_of h k) ≡ interval_of h (s_of h k) =
      interval_of-cut h k (s_of h k) (omega arith)
      ∙ sym (interval-kept h k (record_count h) (s_of h k) (omega arith) (nodes.older k l)) in
      let first = ap (λ i. i.from) parent in
      let last = ap (λ i. i.until) parent in
      let wide = nodes.width k l in
      let p = input_fits (leaf_count h) (before ++ r.t.input ∷ [])
      ((interval_of (cut h k) r.s).until - (interval_of (cut h k) r.s).from - r.width) r.u.input
      judged (omega arith) in
      let here = input-u h k l in
      let count : length before ≡ t_of h k =
      omega (arith, node_inputs-length (cut h k), record_count-cut h k (omega arith)) in
      record {
        some = rw here p.0;
        most = rw here p.1;
        fresh = λ w m same.
            let read : get_or (before ++ r.t.input ∷ []) w 0 ≡ input_of_node h w =
            elim (cases_lt w (t_of h k)) [
              | inl a ↦ get_or_append_left before (r.t.input ∷ []) 0 w (omega arith)
                  ∙ input-cut h k w (omega arith) a
              | inr a ↦ (let is_t : w ≡ t_of h k =
                  omega arith in
                  rw is_t (get_or_push before r.t.input 0 (t_of h k) count ∙ sym (input-t h k l)))
            ] in
            unused (before ++ r.t.input ∷ []) r.u.input w p.2
            (omega (arith, length_push before r.t.input)) (read ∙ same ∙ here);
      }

  pub node_fits : (v : ℕ) → v < node_count h → IsSingle (interval_of h v) → InputFits h v
  node_fits v l single =
      grind (arith, common_steps, t_fits, u_fits, has_maker h v (record_count h), root_fits v)

  -- Leaves

  leaf_fits : (x : ℕ) → x < leaf_count h → InputFits h (leaf_node_of h x)
  leaf_fits x l =
      node_fits (leaf_node_of h x) (leaf_node-lt h shape x l) (leaf_nodes_of_shape h shape x l)

  pub some_input : (x : ℕ) → x < leaf_count h → 0 < leaf_input h x
  some_input x l = (leaf_fits x l).some

  pub input_most : (x : ℕ) → x < leaf_count h → leaf_input h x ≤ leaf_count h
  input_most x l = (leaf_fits x l).most

  -- two leaves have two nodes
  leaf_node-once : (x y : ℕ) → x < leaf_count h → y < leaf_count h
      → leaf_node_of h x ≡ leaf_node_of h y → x ≡ y
  leaf_node-once x y l m same =
      ap (λ i. i.from) (sym (leaf_node-alone h shape x l) ∙ ap (interval_of h) same
      ∙ leaf_node-alone h shape y m)

  -- no two leaves have the same input number
  pub leaf_input-once : (x y : ℕ) → x < leaf_count h → y < leaf_count h
      → leaf_input h x ≡ leaf_input h y → x ≡ y
  leaf_input-once x y l m same = grind (arith, common_steps, leaf_fits, leaf_node-once)
