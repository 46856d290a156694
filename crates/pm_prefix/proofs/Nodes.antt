-- Hierarchies whose nodes all have leaves, finished or not.
use Rattle.std.proofs.Common.{◌≡◌, ℕ, zero, suc, ◌+◌, ◌<◌, ◌≤◌, List, [], ◌∷◌, length, All, arith}
use Rattle.std.proofs.Common.{inl, inr}
use Rattle.std.proofs.lemmas.Bool.{cases_lt}
use Rattle.pm_forest.specs.Forest.{Hierarchy, record_count, node_count, leaf_count, widths}
use Rattle.pm_forest.specs.Forest.{root_interval, interval_after, interval_of, HasForestShape}
use Rattle.pm_forest.specs.Rules.{HasShape}
use Rattle.pm_forest.proofs.Nodes.{interval-kept, interval_of-t, interval_of-u, has_maker}
use Rattle.pm_forest.proofs.RootTables.{width_count}
use Rattle.pm_forest.proofs.LeafNodes.{interval_of-le}
use Rattle.pm_forest.proofs.ShapeLaws.{shape_of_nodes, roots_wide}

-- The nodes keep the rules of shape, and no root is without leaves.
pub record HasNodes (h : Hierarchy) : Type 0 where
  pub nodes : HasForestShape h
  pub wide : All (λ w. 0 < w) (widths h)

pub nodes_of_shape : (h : Hierarchy) → HasShape h → HasNodes h
nodes_of_shape h shape = record { nodes = shape_of_nodes h shape; wide = roots_wide h shape }

root_wide : (ws : List ℕ) (start v : ℕ) → All (λ w. 0 < w) ws → v < length ws
    → (root_interval ws start v).from < (root_interval ws start v).until
root_wide [] start v wide l = absurd (omega arith)
root_wide (w ∷ ws) start zero wide l = let here : 0 < w = wide 0 0 (omega arith) in omega arith
root_wide (w ∷ ws) start (suc v) wide l =
    root_wide ws (start + w) v (λ k d m. wide (suc k) d (omega arith)) (omega arith)

pub root_is : (h : Hierarchy) (v : ℕ) → v < length h.roots
    → interval_of h v ≡ root_interval (widths h) 0 v
unfolding interval_after
root_is h v l = interval-kept h 0 (record_count h) v (omega arith) (omega arith)

module _ (h : Hierarchy) (shape : HasNodes h) where
  pub some_leaves : (v : ℕ) → v < node_count h → (interval_of h v).from < (interval_of h v).until
  some_leaves v l =
      let nodes = shape.nodes in
      elim (cases_lt v (length h.roots)) [
        | inl a ↦
            let root : v < length (widths h) = omega (arith, width_count h.roots) in
            rw (root_is h v a) (root_wide (widths h) 0 v shape.wide root)
        | inr a ↦
            let (j, j_lt, makes) = has_maker h v (record_count h) a l in
            let w = nodes.width j j_lt in
            elim makes [
              | inl is ↦ (rw (is, interval_of-t h nodes j j_lt) (omega arith))
              | inr is ↦ (rw (is, interval_of-u h nodes j j_lt) (omega arith))
            ]
      ]

  -- a node has its leaves among all
  pub node_within : (v : ℕ) → v < node_count h → ((interval_of h v).from < leaf_count h)
      × ((interval_of h v).until ≤ leaf_count h)
  node_within v l =
      let some = some_leaves v l in
      let most = interval_of-le h shape.nodes v l in
      (omega arith, most)
