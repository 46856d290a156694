-- Nodes of a hierarchy of the right shape: their numbers, the leaves and faces under them.
use Rattle.std.proofs.Common.{◌≡◌, ◌≢◌, ℕ, ◌+◌, ◌<◌, ◌≤◌, eqb, Bool, ◌||◌, None, refl, sym, ap, ◌∙◌}
use Rattle.std.proofs.Common.{arith}
use Rattle.std.proofs.lemmas.Grind.{common_steps}
use Rattle.std.proofs.lemmas.Bool.{eq-eqb, ne_eqb}
use Rattle.pm_forest.specs.declared.parts.Face.{Face}
use Rattle.pm_forest.specs.Forest.{Hierarchy, within, record_count, node_count, leaf_count, s_of}
use Rattle.pm_forest.specs.Forest.{t_of, u_of, holds, Holds, interval_of, splitter_of}
use Rattle.pm_forest.specs.Rules.{HasShape}
use Rattle.pm_forest.specs.Tables.{leaf_node_of}
use Rattle.pm_forest.proofs.Nodes.{within-true, within-from, holds-s_from_t, holds-s_from_u}
use Rattle.pm_forest.proofs.Nodes.{holds-u_from_s}
use Rattle.pm_forest.proofs.HierarchyLaws.{some_leaves, under_node, leaf_node-alone}
use Rattle.pm_forest.proofs.LeafNodes.{leaf_node-unsplit}
use Rattle.pm_forest.proofs.ShapeLaws.{leaf_count-le, root_count-le, record_count-roots}
use Rattle.pm_forest.proofs.ShapeLaws.{shape_of_nodes}
use Rattle.pm_bounds.specs.Bounds.{has_corner_under}
use Rattle.pm_bounds.specs.Leaves.{is_leaf_corner}

-- an interval of one leaf
within_one : (l x : ℕ) → within (record { from = l; until = l + 1 }) x ≡ eqb l x
within_one l x = grind (arith, common_steps, eq-eqb, ne_eqb, within-from, within-true)

module _ (h : Hierarchy) (shape : HasShape h) where
  -- numbers of nodes fit in 32 bits
  pub few_nodes : node_count h ≤ 2097152
  few_nodes = grind (arith, common_steps, leaf_count-le, record_count-roots, root_count-le)

  pub split_node : (k : ℕ) → k < record_count h → s_of h k < node_count h
  split_node k l = let older = (shape_of_nodes h shape).older k l in omega arith

  -- the node of a leaf has a leaf below it exactly where it is this leaf
  own_leaf : (l x : ℕ) → l < leaf_count h → holds h (leaf_node_of h l) x ≡ eqb l x
  unfolding holds
  own_leaf l x below = ap (λ i. within i x) (leaf_node-alone h shape l below) ∙ within_one l x

  -- so a face is under it exactly where it has the leaf at a corner
  pub own_faces : (l : ℕ) (f : Face) → l < leaf_count h
      → is_leaf_corner l f ≡ has_corner_under h (leaf_node_of h l) f
  own_faces l f below = rw (own_leaf l f.a below, own_leaf l f.b below, own_leaf l f.c below) refl

  -- two leaves have two nodes
  pub leaf_node-apart : (l m : ℕ) → l < leaf_count h → m < leaf_count h → l ≢ m
      → leaf_node_of h l ≢ leaf_node_of h m
  leaf_node-apart l m below too differs same =
      differs (ap (λ i. i.from) (sym (leaf_node-alone h shape l below) ∙ ap (interval_of h) same
      ∙ leaf_node-alone h shape m too))

  -- a node that no record splits is the node of a leaf
  pub has_leaf : (v : ℕ) → v < node_count h → splitter_of h v ≡ None → (l : ℕ) × (l < leaf_count h)
      × (leaf_node_of h l ≡ v)
  unfolding holds
  has_leaf v below none =
      let l = (interval_of h v).from in
      let held : Holds h v l =
      within-from (interval_of h v) l (omega arith) (some_leaves h shape v below) in (
        l,
        under_node h shape v l below held,
        leaf_node-unsplit h (shape_of_nodes h shape) v l below
            none held,
      )

  -- the leaves below a node that is split are those below its children
  pub children_hold : (k x : ℕ) → k < record_count h
      → holds h (s_of h k) x ≡ (holds h (t_of h k) x || holds h (u_of h k) x)
  children_hold k x l =
      grind (arith, common_steps, holds-s_from_t, holds-s_from_u, holds-u_from_s, shape_of_nodes)

  mixed : (a b c d e f : Bool) → ((a || b) || (c || d) || (e || f))
      ≡ ((a || c || e) || (b || d || f))
  mixed a b c d e f = grind (arith, common_steps)

  -- and so are the faces under it
  pub children_faces : (k : ℕ) (f : Face) → k < record_count h
      → has_corner_under h (s_of h k) f
      ≡ (has_corner_under h (t_of h k) f || has_corner_under h (u_of h k) f)
  children_faces k f l = grind (arith, common_steps, children_hold, mixed)
