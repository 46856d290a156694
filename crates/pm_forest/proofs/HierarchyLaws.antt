-- What the readers of a whole hierarchy answer.
use Rattle.std.proofs.Common.{◌≡◌, ◌≢◌, ◌↔◌, ℕ, zero, suc, ◌+◌, ◌-◌, ◌/◌, ◌%◌, ◌<◌, ◌≤◌, List, []}
use Rattle.std.proofs.lemmas.Grind.{common_steps}
use Rattle.std.proofs.Common.{◌∷◌, length, get_or, All, None, Some, IfSome, inl, inr, refl, sym, ap}
use Rattle.std.proofs.Common.{◌∙◌, arith}
use Rattle.std.proofs.lemmas.Bool.{cases_lt, lt-ltb, le-ltb, lt-leb, le-leb, eq-eqb, ne_eqb}
use Rattle.std.proofs.lemmas.Bool.{cond-true, cond-false}
use Rattle.std.proofs.lemmas.List.{get_or_default}
use Rattle.std.proofs.lemmas.Option.{none-some}
use Rattle.pm_base.proofs.Search.{option_cases}
use Rattle.pm_forest.specs.declared.parts.Root.{Root}
use Rattle.pm_forest.specs.Forest.{Hierarchy, Interval, record_at, widths, record_count, node_count}
use Rattle.pm_forest.specs.Forest.{leaf_count, Holds, holds, root_interval, interval_after}
use Rattle.pm_forest.specs.Forest.{interval_of, splitter_of}
use Rattle.pm_forest.specs.Fronts.{every}
use Rattle.pm_forest.specs.Faces.{first_face, face_count, revealed_by, revealed_after}
use Rattle.pm_forest.specs.Places.{no_root, place_of_node}
use Rattle.pm_forest.specs.Rules.{HasShape}
use Rattle.pm_forest.specs.Tables.{Grown, all_of, grown, IsSingle, leaf_node_of}
use Rattle.pm_forest.proofs.Nodes.{within-true, within-from, interval-kept, interval_of-t}
use Rattle.pm_forest.proofs.Nodes.{interval_of-u, has_maker, splitter_of-splits}
use Rattle.pm_forest.proofs.Ancestors.{ancestor-lt, holds-ancestor_of}
use Rattle.pm_forest.proofs.FaceNumbers.{revealed-parts, first_face-mono}
use Rattle.pm_forest.proofs.RootTables.{width_count}
use Rattle.pm_forest.proofs.LeafNodes.{interval_of-le, leaf_node-unsplit}
use Rattle.pm_forest.proofs.ShapeLaws.{shape_of_nodes, roots_wide}
use Rattle.pm_forest.proofs.FaceLimits.{leaf_nodes_of_shape}

-- With no record to come, the forest's units are those of the hierarchy.
pub all_units : (g : Grown) (h : Hierarchy) → g.coming ≡ None → g.h ≡ h → grown g ≡ h
all_units g h none is = ap (all_of g.h) none ∙ is

-- no root is without leaves
root_wide : (ws : List ℕ) (start v : ℕ) → All (λ w. 0 < w) ws → v < length ws →
    (root_interval ws start v).from < (root_interval ws start v).until
root_wide [] start v wide l = absurd (omega arith)
root_wide (w ∷ ws) start zero wide l = let here : 0 < w = wide 0 0 (omega arith) in omega arith
root_wide (w ∷ ws) start (suc v) wide l =
    root_wide ws (start + w) v (λ k d m. wide (suc k) d (omega arith)) (omega arith)

-- An interval is its two ends.
interval_of_ends : (i : Interval) (a b : ℕ) → i.from ≡ a → i.until ≡ b
    → i ≡ record { from = a; until = b }
interval_of_ends i a b from until = rw (← from, ← until) refl

module _ (h : Hierarchy) (shape : HasShape h) where
  pub root_is : (v : ℕ) → v < length h.roots → interval_of h v ≡ root_interval (widths h) 0 v
  unfolding interval_after
  root_is v l = interval-kept h 0 (record_count h) v (omega arith) (omega arith)

  -- no node is without leaves
  pub some_leaves : (v : ℕ) → v < node_count h → (interval_of h v).from < (interval_of h v).until
  some_leaves v l =
      elim (cases_lt v (length h.roots)) [
        | inl a ↦
            let root : v < length (widths h) = omega (arith, width_count h.roots) in
            rw (root_is v a) (root_wide (widths h) 0 v (roots_wide h shape) root)
        | inr a ↦
            let (j, j_lt, makes) = has_maker h v (record_count h) a l in
            let w = (shape_of_nodes h shape).width j j_lt in
            elim makes [
              | inl is ↦ (rw (is, interval_of-t h (shape_of_nodes h shape) j j_lt) (omega arith))
              | inr is ↦ (rw (is, interval_of-u h (shape_of_nodes h shape) j j_lt) (omega arith))
            ]
      ]

  -- what is under a node is a leaf
  pub under_node : (v x : ℕ) → v < node_count h → Holds h v x → x < leaf_count h
  unfolding holds
  under_node v x l e = let p =
      within-true _ x e in omega (arith, interval_of-le h (shape_of_nodes h shape) v l)

  -- A node that a record splits has two leaves or more.
  split_wide : (v k : ℕ) → splitter_of h v ≡ Some k
      → (interval_of h v).from + 1 < (interval_of h v).until
  split_wide v k e = grind (arith, common_steps, shape_of_nodes h shape, splitter_of-splits h k v e)

  -- A node that none splits is the node of its first leaf in the full front, and so has that leaf
  -- alone.
  one_leaf : (v : ℕ) → v < node_count h → splitter_of h v ≡ None → IsSingle (interval_of h v)
  unfolding holds
  one_leaf v l none =
      let x = (interval_of h v).from in
      let under : Holds h v x = within-from (interval_of h v) x (omega arith) (some_leaves v l) in
      let node = leaf_node-unsplit h (shape_of_nodes h shape) v x l none under in
      rw node at (leaf_nodes_of_shape h shape x (under_node v x l under))

  -- no record splits a node of one leaf, and no other node stays whole
  pub unsplit-single : (v : ℕ) → v < node_count h → (splitter_of h v ≡ None)
      ↔ IsSingle (interval_of h v)
  unsplit-single v l = grind (arith, common_steps, one_leaf, option_cases, split_wide)

  -- the node of a leaf has this leaf alone
  pub leaf_node-alone : (x : ℕ) → x < leaf_count h →
      interval_of h (leaf_node_of h x) ≡ record { from = x; until = x + 1 }
  unfolding holds
  leaf_node-alone x l =
      let single = leaf_nodes_of_shape h shape x l in
      let p = within-true _ x (holds-ancestor_of h (shape_of_nodes h shape) every x l) in
      let from : (interval_of h (leaf_node_of h x)).from ≡ x = omega arith in
      let until : (interval_of h (leaf_node_of h x)).until ≡ x + 1 = omega arith in
      interval_of_ends _ x (x + 1) from until

  pub leaf_node-lt : (x : ℕ) → x < leaf_count h → leaf_node_of h x < node_count h
  leaf_node-lt x l = ancestor-lt h (shape_of_nodes h shape) every (record_count h) x l

-- Faces

later_revealed : (h : Hierarchy) (n f : ℕ) → length h.bases ≤ f → f < first_face h n
    → revealed_after h n f ≢ None
unfolding first_face revealed_after
later_revealed h zero f l m none = omega arith
later_revealed h (suc n) f l m none =
    elim (cases_lt f (first_face h n)) [
      | inl before ↦
          later_revealed h n f l before (sym (cond-false _ _ _ (lt-leb (first_face h n) f before))
          ∙ none)
      | inr past ↦ none-some n (sym none ∙ cond-true _ _ _ (le-leb (first_face h n) f past))
    ]

-- no record reveals a base face, and one reveals each other face
pub revealed-base : (h : Hierarchy) (f : ℕ) → f < face_count h → (revealed_by h f ≡ None)
    ↔ (f < length h.bases)
unfolding first_face
revealed-base h f l = (
  λ none. elim (cases_lt f (length h.bases)) [
    | inl base ↦ base
    | inr later ↦ absurd (later_revealed h (record_count h) f later l none)
  ],
  λ base. elim (option_cases (revealed_by h f)) [
    | inl none ↦ none
    | inr (k, e) ↦
        let p = revealed-parts h f k l e in
        let first = first_face-mono h 0 k (omega arith) in
        absurd (omega arith)
  ],
)

pub revealed-lt : (h : Hierarchy) (f : ℕ) → f < face_count h
    → IfSome (revealed_by h f) (λ k. k < record_count h)
revealed-lt h f l =
    elim (option_cases (revealed_by h f)) [
      | inl none ↦ (rw none tt)
      | inr (k, e) ↦ (rw e (revealed-parts h f k l e).0)
    ]

pub splitter-lt : (h : Hierarchy) (v : ℕ) → IfSome (splitter_of h v) (λ k. k < record_count h)
splitter-lt h v =
    elim (option_cases (splitter_of h v)) [
      | inl none ↦ (rw none tt)
      | inr (k, e) ↦ (rw e (splitter_of-splits h k v e).1)
    ]

-- Places

pub place-root : (h : Hierarchy) (v : ℕ) (r : Root) → v < length h.roots → r ≡ get_or h.roots v r →
    r.place ≡ place_of_node h v
unfolding place_of_node
place-root h v r l is =
    rw (lt-ltb v (length h.roots) l)
    (ap (λ (q : Root). q.place) (is ∙ get_or_default h.roots v r no_root l))

pub place-t : (h : Hierarchy) (v : ℕ) → length h.roots ≤ v → (v - length h.roots) % 2 ≡ 0 →
    (record_at h ((v - length h.roots) / 2)).t.place ≡ place_of_node h v
unfolding place_of_node
place-t h v l even = rw (le-ltb v (length h.roots) l, eq-eqb ((v - length h.roots) % 2) 0 even) refl

pub place-u : (h : Hierarchy) (v : ℕ) → length h.roots ≤ v → (v - length h.roots) % 2 ≢ 0 →
    (record_at h ((v - length h.roots) / 2)).u.place ≡ place_of_node h v
unfolding place_of_node
place-u h v l odd = rw (le-ltb v (length h.roots) l, ne_eqb ((v - length h.roots) % 2) 0 odd) refl
