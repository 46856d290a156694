-- The table of the leaves' nodes, with one root or one record more.
use Rattle.std.proofs.Common.{◌≡◌, ◌≢◌, ℕ, zero, suc, ◌+◌, ◌<◌, ◌≤◌, eqb, Bool, true, false, cond}
use Rattle.std.proofs.lemmas.Grind.{common_steps}
use Rattle.std.proofs.Common.{List, [], ◌∷◌, ◌++◌, length, sum, get_or, set, None, inl, inr, refl}
use Rattle.std.proofs.Common.{sym, ap, subst, ◌∙◌, arith, length-set}
use Rattle.std.proofs.lemmas.Bool.{eq-eqb, ne_eqb, cond-true}
use Rattle.std.proofs.lemmas.Bool.{cond-false}
use Rattle.std.proofs.lemmas.List.{get_or-set_same, get_or-set_other}
use Rattle.pm_forest.specs.declared.parts.Root.{Root}
use Rattle.pm_forest.specs.declared.parts.Record.{Record}
use Rattle.pm_forest.specs.Forest.{Hierarchy, widths, widths_of, leaf_count, node_count}
use Rattle.pm_forest.specs.Forest.{record_count, s_of, t_of, u_of, root_interval, root_of}
use Rattle.pm_forest.specs.Forest.{interval_after, interval_of, holds, Holds, splitter_of}
use Rattle.pm_forest.specs.Forest.{first_part, rest, HasForestShape}
use Rattle.pm_forest.specs.Fronts.{IsThere, every, ancestor_after}
use Rattle.pm_forest.specs.Rules.{with_record}
use Rattle.pm_forest.specs.Tables.{IsSingle, leaf_node_of}
use Rattle.pm_forest.proofs.Nodes.{within-true, within-false, within-from, interval-kept, has_maker}
use Rattle.pm_forest.proofs.Ancestors.{stays, to_t, to_u, move, ancestor-lt, holds-ancestor_of}
use Rattle.pm_forest.proofs.Ancestors.{ancestor-at, every-front}
use Rattle.pm_forest.proofs.Prefix.{record_count-with_record, s_of-with_record}
use Rattle.pm_forest.proofs.Prefix.{s_of-with_record_last, interval_of-with_record}
use Rattle.pm_forest.proofs.Prefix.{interval_of-with_record_t, interval_of-with_record_u}
use Rattle.pm_forest.proofs.SameSplit.{s_of-same_split, interval_of-same_split, unsplit}
use Rattle.pm_forest.proofs.RootTables.{width_count, widths-push, sum-push, root_interval-push}
use Rattle.pm_forest.proofs.RootTables.{root_interval-last, root_of-push, root_of-last}
use Rattle.pm_forest.proofs.RootTables.{root_interval-le}

-- The table once a node is noted: it is the node of its leaf, where it has but one.
abbrev pub noted : List ℕ → ℕ → ℕ → ℕ → List ℕ
noted leaf_nodes node from until = cond (eqb until (from + 1)) (set leaf_nodes from node) leaf_nodes

pub length-noted : (leaf_nodes : List ℕ) (node from until : ℕ)
    → length (noted leaf_nodes node from until) ≡ length leaf_nodes
length-noted leaf_nodes node from until =
    grind (arith, common_steps, cond-false, cond-true, length-set)

noted-single : (leaf_nodes : List ℕ) (node from until : ℕ) → until ≡ from + 1
    → from < length leaf_nodes →
    get_or (noted leaf_nodes node from until) from 0 ≡ node
noted-single leaf_nodes node from until single within =
    rw (cond-true _ (set leaf_nodes from node) leaf_nodes (eq-eqb until (from + 1) single))
    (get_or-set_same leaf_nodes from node 0 within)

noted-other : (leaf_nodes : List ℕ) (node from until x : ℕ) → x ≢ from →
    get_or (noted leaf_nodes node from until) x 0 ≡ get_or leaf_nodes x 0
noted-other leaf_nodes node from until x differs =
    grind (arith, common_steps, cond-false, cond-true, get_or-set_other)

-- One root more

-- The node of leaf x is right where it has but this leaf, as long as there is no record.
abbrev pub HasRoot : List Root → List ℕ → ℕ → Type 0
HasRoot roots leaf_nodes x =
    IsSingle (root_interval (widths_of roots) 0 (root_of (widths_of roots) 0 x))
    → get_or leaf_nodes x 0 ≡ root_of (widths_of roots) 0 x

module _ (roots : List Root) (r : Root) (leaf_nodes : List ℕ) (node from : ℕ)
    (at : node ≡ length roots)
    (start : from ≡ sum (widths_of roots)) (room : from + r.width ≤ length leaf_nodes) where
  pub leaf-last : (x : ℕ) → from ≤ x → x < sum (widths_of (roots ++ r ∷ [])) →
      HasRoot (roots ++ r ∷ []) (noted leaf_nodes node from (from + r.width)) x
  leaf-last x above l single =
      let ws = widths_of roots in
      let push = widths-push roots r in
      let all = sum-push ws r.width in
      let root = root_of-last ws r.width 0 x (omega arith) (omega (arith, ap sum push)) in
      let last = root_interval-last ws r.width 0 in
      let one : IsSingle (root_interval (ws ++ r.width ∷ []) 0 (length ws)) =
      rw (push, root) at single in
      let is : x ≡ from = omega (arith, ap sum push) in
      let node_is : node ≡ length ws = omega (arith, width_count roots) in
      let read = noted-single leaf_nodes node from (from + r.width) (omega arith)
      (omega (arith, ap sum push)) in
      rw (push, root, is, ← node_is) read

  pub leaf-before : (x : ℕ) → x < from → root_of (widths_of roots) 0 x < length roots
      → HasRoot roots leaf_nodes x →
      HasRoot (roots ++ r ∷ []) (noted leaf_nodes node from (from + r.width)) x
  leaf-before x below lt was single =
      let ws = widths_of roots in
      let push = widths-push roots r in
      let root = root_of-push ws r.width 0 x (omega arith) in
      let interval =
      root_interval-push ws r.width 0 (root_of ws 0 x) (omega (arith, width_count roots)) in
      let one : IsSingle (root_interval ws 0 (root_of ws 0 x)) =
      rw (push, root, interval) at single in
      rw (push, root, noted-other leaf_nodes node from (from + r.width) x (omega arith)) (was one)

-- Ancestors and intervals

-- two forests whose records split the same nodes have the same ancestors, where their children have
-- the same leaves
ancestor_after-alike : (g h : Hierarchy) (T : ℕ → Bool) (k x : ℕ) → g.roots ≡ h.roots →
    ((j : ℕ) → j < k → s_of g j ≡ s_of h j)
    → ((j : ℕ) → j < k → interval_of g (t_of g j) ≡ interval_of h (t_of h j)) →
    ancestor_after g T k x ≡ ancestor_after h T k x
unfolding ancestor_after holds
ancestor_after-alike g h T zero x roots nodes spans = rw roots refl
ancestor_after-alike g h T (suc k) x roots nodes spans =
    grind (arith, common_steps, ancestor_after-alike g h T k x roots)

-- where the leaves are before the last record
leaf_node-before : (h : Hierarchy) (r : Record) (x : ℕ)
    → ancestor_after (with_record h r) every (record_count h) x ≡ leaf_node_of h x
leaf_node-before h r x =
    ancestor_after-alike (with_record h r) h every (record_count h) x refl
    (λ j l. s_of-with_record h r j l) (λ j l. interval_of-with_record h r (t_of h j) (omega arith))

-- the leaves' nodes don't change with the faces of the last record
pub leaf_node-same_split : (h : Hierarchy) (r q : Record) → r.s ≡ q.s → r.width ≡ q.width → (x : ℕ)
    →
    leaf_node_of (with_record h r) x ≡ leaf_node_of (with_record h q) x
leaf_node-same_split h r q node width x =
    let count : record_count (with_record h r) ≡ record_count (with_record h q) =
    omega (arith, record_count-with_record h r, record_count-with_record h q) in
    ap (λ n. ancestor_after (with_record h r) every n x) count
    ∙ ancestor_after-alike (with_record h r) (with_record h q) every
    (record_count (with_record h q)) x refl
    (λ j l. s_of-same_split h r q node j)
    (λ j l. interval_of-same_split h r q node width (t_of h j))

-- no node has leaves past the leaves' number
interval_after-le : (h : Hierarchy) → HasForestShape h → (k v : ℕ) → k ≤ record_count h
    → v < t_of h k →
    (interval_after h k v).until ≤ leaf_count h
unfolding interval_after
interval_after-le h shape zero v m l = omega (arith, root_interval-le (widths h) 0 v)
interval_after-le h shape (suc k) v m l =
    grind (
      arith,
      common_steps,
      eq-eqb v (t_of h k),
      eq-eqb v (u_of h k),
      interval-kept h k (record_count h) (s_of h k),
      ne_eqb v (t_of h k),
      ne_eqb v (u_of h k),
      interval_after-le h shape k (s_of h k),
      interval_after-le h shape k v,
    )

pub interval_of-le : (h : Hierarchy) → HasForestShape h → (v : ℕ) → v < node_count h
    → (interval_of h v).until ≤ leaf_count h
interval_of-le h shape v l = interval_after-le h shape (record_count h) v (omega arith) l

-- each node is there once all records are split
there_every : (h : Hierarchy) (v : ℕ) → v < node_count h → IsThere h every v
there_every h v l = grind (arith, common_steps, has_maker h v (record_count h))

-- a node that no record splits is the node of each of its leaves
pub leaf_node-unsplit : (h : Hierarchy) → HasForestShape h → (v x : ℕ) → v < node_count h
    → splitter_of h v ≡ None →
    Holds h v x → leaf_node_of h x ≡ v
leaf_node-unsplit h shape v x l none held =
    ancestor-at h shape every (every-front h) (record_count h) v x (omega arith) l
    (there_every h v l)
    (λ i before _. unsplit h v none i before) held

-- One record more

-- Record r may come next, and there is a cell for each leaf.
pub record Splits (h : Hierarchy) (r : Record) (leaf_nodes : List ℕ) : Type 0 where
  pub shape : HasForestShape h
  pub there : r.s < node_count h
  pub free : splitter_of h r.s ≡ None
  pub first : 0 < r.width
  pub rest : (interval_of h r.s).from + r.width < (interval_of h r.s).until
  pub room : leaf_count h ≤ length leaf_nodes

-- The table once both its children are noted.
abbrev pub both_noted : Hierarchy → Record → List ℕ → List ℕ
both_noted h r leaf_nodes =
    let i = interval_of h r.s in
    noted (noted leaf_nodes (node_count h) i.from (i.from + r.width)) (node_count h + 1)
    (i.from + r.width) i.until

module _ (h : Hierarchy) (r : Record) (leaf_nodes : List ℕ) (s : Splits h r leaf_nodes) where
  -- nothing is noted at a leaf that isn't under the node that is split
  leaf-elsewhere : (x : ℕ) → leaf_node_of h x ≢ r.s → get_or (both_noted h r leaf_nodes) x 0
      ≡ get_or leaf_nodes x 0
  unfolding holds
  leaf-elsewhere x other =
      let i = interval_of h r.s in
      let cut = i.from + r.width in
      let fits = s.rest in
      let some = s.first in
      let from_held : holds h r.s i.from ≡ true =
      within-from i i.from (omega arith) (omega arith) in
      let cut_held : holds h r.s cut ≡ true = within-from i cut (omega arith) (omega arith) in
      let from_node = leaf_node-unsplit h s.shape r.s i.from s.there s.free from_held in
      let cut_node = leaf_node-unsplit h s.shape r.s cut s.there s.free cut_held in
      let not_from : x ≢ i.from = λ is. other (ap (leaf_node_of h) is ∙ from_node) in
      let not_cut : x ≢ cut = λ is. other (ap (leaf_node_of h) is ∙ cut_node) in
      noted-other (noted leaf_nodes (node_count h) i.from cut) (node_count h + 1) cut i.until x
      not_cut
      ∙ noted-other leaf_nodes (node_count h) i.from cut x not_from

  leaf-under_t : (x : ℕ) → let t = t_of h (record_count h) in
      Holds (with_record h r) t x → IsSingle (interval_of (with_record h r) t)
      → get_or (both_noted h r leaf_nodes) x 0 ≡ t
  unfolding holds
  leaf-under_t x held single =
      let i = interval_of h r.s in
      let cut = i.from + r.width in
      let interval = interval_of-with_record_t h r in
      let one : IsSingle (first_part i r.width) = rw interval at single in
      let p = within-true (first_part i r.width) x (rw interval at held) in
      let most = interval_of-le h s.shape r.s s.there in
      let room = s.room in
      let fits = s.rest in
      let is : x ≡ i.from = omega arith in
      noted-other (noted leaf_nodes (node_count h) i.from cut) (node_count h + 1) cut i.until x
      (omega arith)
      ∙ ap (λ y. get_or (noted leaf_nodes (node_count h) i.from cut) y 0) is
      ∙ noted-single leaf_nodes (node_count h) i.from cut one (omega arith)

  leaf-under_u : (x : ℕ) → let n = record_count h in
      Holds h r.s x → holds (with_record h r) (t_of h n) x ≡ false
      → IsSingle (interval_of (with_record h r) (u_of h n)) →
      get_or (both_noted h r leaf_nodes) x 0 ≡ u_of h n
  unfolding holds
  leaf-under_u x held not_t single =
      let i = interval_of h r.s in
      let cut = i.from + r.width in
      let one : IsSingle (rest i r.width) = rw (interval_of-with_record_u h r) at single in
      let p = within-true i x held in
      let q = within-false (first_part i r.width) x (rw (interval_of-with_record_t h r) at not_t) in
      let most = interval_of-le h s.shape r.s s.there in
      let room = s.room in
      let past : cut ≤ x = elim q [ inl before ↦ absurd (omega arith) | inr after ↦ after ] in
      let is : x ≡ cut = omega arith in
      let len = length-noted leaf_nodes (node_count h) i.from cut in
      ap (λ y. get_or (both_noted h r leaf_nodes) y 0) is
      ∙ noted-single (noted leaf_nodes (node_count h) i.from cut) (node_count h + 1) cut i.until one
      (omega arith)

  pub leaf-with_record : (x : ℕ) → x < leaf_count h →
      (IsSingle (interval_of h (leaf_node_of h x)) → get_or leaf_nodes x 0 ≡ leaf_node_of h x) →
      IsSingle (interval_of (with_record h r) (leaf_node_of (with_record h r) x)) →
      get_or (both_noted h r leaf_nodes) x 0 ≡ leaf_node_of (with_record h r) x
  leaf-with_record x l was single =
      let n = record_count h in
      let after = λ (k : ℕ). ancestor_after (with_record h r) every k x in
      let count : leaf_node_of (with_record h r) x ≡ after (suc n) =
      ap after (record_count-with_record h r) in
      let before = leaf_node-before h r x in
      let node = s_of-with_record_last h r in
      elim (move (with_record h r) every n x) [
        | stays e n ↦
            let same : leaf_node_of (with_record h r) x ≡ leaf_node_of h x = count ∙ e ∙ before in
            let lt : leaf_node_of h x < node_count h =
            ancestor-lt h s.shape every (record_count h) x l in
            let interval = interval_of-with_record h r (leaf_node_of h x) lt in
            let one : IsSingle (interval_of h (leaf_node_of h x)) = rw (same, interval) at single in
            let other : leaf_node_of h x ≢ r.s = λ is. n refl (node ∙ sym is ∙ sym before) in
            leaf-elsewhere x other ∙ was one ∙ sym same
        | to_t a b c e ↦ grind (arith, common_steps, leaf-under_t)
        | to_u a b c e ↦
            let is : leaf_node_of (with_record h r) x ≡ u_of h n = count ∙ e in
            let at_s : leaf_node_of h x ≡ r.s = sym before ∙ sym b ∙ node in
            let held : Holds h r.s x =
            subst (λ v. Holds h v x) at_s (holds-ancestor_of h s.shape every x l) in
            leaf-under_u x held c
            (subst (λ v. IsSingle (interval_of (with_record h r) v)) is single) ∙ sym is
      ]
