-- A vertex that no collapse of a run takes is a fixed leaf of the run's hierarchy.
use Rattle.std.proofs.Common.{◌≡◌, ℕ, ◌<◌, ◌≤◌, List, length, inl, inr, refl, sym, ap, ◌∙◌, subst}
use Rattle.std.proofs.Common.{arith}
use Rattle.std.proofs.lemmas.Bool.{ltb-true, ne_eqb, or_from}
use Rattle.pm_base.specs.Meshes.{Mesh}
use Rattle.pm_base.specs.declared.log.Collapse.{Collapse}
use Rattle.pm_forest.specs.Forest.{Hierarchy, leaf_count, holds, Holds}
use Rattle.pm_forest.specs.Fronts.{IsActive, ancestor_after, ancestor_of, below}
use Rattle.pm_forest.proofs.Nodes.{within-true}
use Rattle.pm_forest.proofs.LeafNodes.{interval_of-le}
use Rattle.pm_forest.proofs.Ancestors.{below-front, ancestor-at, ancestor_of-unique, there-lt}
use Rattle.pm_runs.specs.Runs.{IsStartOfRun, IsRun}
use Rattle.pm_runs.specs.Counts.{IsSpared}
use Rattle.pm_number.specs.Stages.{Run, run_of, no_collapse, entry_at, IsMerging}
use Rattle.pm_number.specs.Numbering.{node_number, leaf_number, face_number, hierarchy_of}
use Rattle.pm_number.specs.Numbering.{hierarchy_of_run, IsThereAfter}
use Rattle.pm_number.specs.Shown.{IsNumbered}
use Rattle.pm_number.proofs.LiveNodes.{live-active}
use Rattle.pm_number.proofs.Merging.{merging}
use Rattle.pm_number.proofs.Stages.{leaf-node}
use Rattle.pm_number.proofs.Whole.{numbered}
use Rattle.pm_tiles.specs.Fixed.{root_over, IsFixed}
use Rattle.pm_tiles.specs.RunLaws as law

module _ (m : Mesh) (start : IsStartOfRun m) (log : List Collapse) (run : IsRun m log) where
  abbrev r : Run
  r = run_of m log

  abbrev h : Hierarchy
  h = hierarchy_of (run_of m log)

  pub told : IsMerging (run_of m log)
  told = merging m log start run

  pub num :
      IsNumbered (run_of m log) (hierarchy_of (run_of m log)) (node_number (run_of m log))
      (leaf_number (run_of m log)) (face_number (run_of m log))
  num = numbered (run_of m log) told

  -- A spared vertex is there to the end.
  there : (v i : ℕ) → v < length m.points → IsSpared v log → i ≤ length log → IsThereAfter r i v
  unfolding entry_at
  there v i l spared il = (
    omega arith,
    λ j jl.
        let apart = spared j no_collapse (omega arith) in
        or_from _ _ (ne_eqb (entry_at r j).t v (λ is. apart.0 (sym is)))
        (ne_eqb (entry_at r j).u v (λ is. apart.1 (sym is))),
  )

  module _ (v : ℕ) (l : v < length m.points) (spared : IsSpared v log) where
    abbrev node : ℕ
    node = node_number (run_of m log) v

    abbrev leaf : ℕ
    leaf = leaf_number (run_of m log) v

    -- Its node is active in the base front and in the full one.
    at_base : IsActive h (below 0) node
    at_base =
        live-active r told (length log) 0 (omega arith) v
        (there v (length log) l spared (omega arith))

    at_full : IsActive h (below (length log)) node
    at_full = live-active r told 0 (length log) (omega arith) v (there v 0 l spared (omega arith))

    is_root : node < length h.roots
    is_root =
        elim at_base.0 [
          | inl a ↦ a
          | inr (j, a, b, makes) ↦ (let none = ltb-true j 0 b in absurd (omega arith))
        ]

    root_is : root_over h leaf ≡ node
    unfolding ancestor_after
    root_is =
        ancestor-at h num.forest (below 0) (below-front h num.forest 0) 0 node leaf (omega arith)
        (let a = is_root in omega arith) (inl is_root) (λ i il. absurd (omega arith))
        (num.held v l)

    under_lt : (y : ℕ) → Holds h node y → y < leaf_count h
    unfolding holds
    under_lt y under =
        let p = within-true _ y under in
        let node-lt = there-lt h num.forest (below 0) node at_base.0 in
        omega (arith, interval_of-le h num.forest node node-lt)

    -- A leaf under the root that it is has the same node in the full front.
    pub vertex_fixed : IsFixed h leaf
    vertex_fixed y holds =
        let full = below (length log) in
        let front = below-front h num.forest (length log) in
        let under : Holds h node y = subst (λ n. Holds h n y) root_is holds in
        let ly : y < leaf_count h = under_lt y under in
        let (x, lx, is) = num.leaf_back y ly in
        let one : ancestor_of h full y ≡ node =
        ancestor_of-unique h num.forest full front node y at_full under in
        let two : ancestor_of h full (leaf_number r x) ≡ node_number r x =
        leaf-node r h (node_number r) (leaf_number r) (face_number r) told num x (length log)
        refl lx in
        let same : node_number r x ≡ node = sym two ∙ ap (ancestor_of h full) is ∙ one in
        let x_is : x ≡ v = num.node_once x v (omega arith) (omega arith) same in
        sym is ∙ ap (leaf_number r) x_is

pub spared_fixed : law.SparedVerticesAreFixed
unfolding hierarchy_of_run
spared_fixed m start log run v l spared = vertex_fixed m start log run v l spared
