-- Means of nodes.
use Rattle.std.proofs.Common.{◌≡◌, ℕ, suc, ◌+◌, ◌-◌, ◌*◌, ◌/◌, ◌<◌, ◌≤◌, Bool, true, false, List}
use Rattle.std.proofs.Common.{◌||◌, eqb, map, length, subst, get_or, ap, ◌∙◌, arith}
use Rattle.std.proofs.lemmas.Grind.{common_steps}
use Rattle.std.proofs.lemmas.Nat.{div_below, le-div, div-add-mod', mod_below}
use Rattle.std.proofs.Math.Nat.{suc-mul}
use Rattle.std.proofs.lemmas.List.FromFn.{get_or-map-range_with_len, length-map-range_with_len}
use Rattle.std.specs.List.{range_with_len}
use Rattle.std.specs.Option.{unwrap_or}
use Rattle.std.proofs.lemmas.Bool.{eqb-true, eq-eqb}
use Rattle.pm_base.proofs.Search.{find_below-has, find_below-some}
use Rattle.pm_forest.proofs.MeshLaws.{has_input_numbers, vertex_below}
use Rattle.pm_forest.specs.Forest.{Hierarchy, record_count, node_count, leaf_count, s_of}
use Rattle.pm_forest.specs.Forest.{t_of, u_of, holds, Holds, interval_of}
use Rattle.pm_forest.specs.Rules.{HasShape}
use Rattle.pm_forest.specs.Tables.{leaf_node_of}
use Rattle.pm_forest.specs.Meshes.{leaf_input, leaf_of_input}
use Rattle.pm_forest.proofs.Nodes.{within-true, holds-s_from_t, holds-s_from_u, holds-u_from_s}
use Rattle.pm_forest.proofs.Nodes.{not_both}
use Rattle.pm_forest.proofs.HierarchyLaws.{some_leaves, leaf_node-alone, leaf_node-lt}
use Rattle.pm_forest.proofs.LeafNodes.{interval_of-le}
use Rattle.pm_forest.proofs.ShapeLaws.{shape_of_nodes}
use Rattle.pm_paint.specs.Means.{AreAtMost, value_of, total_before, sum_under, count_under}
use Rattle.pm_paint.specs.Means.{rounded, mean_of}
use Rattle.pm_paint.proofs.SumLaws.{sum_interval, count_interval, sum_joined}
use Rattle.pm_paint.proofs.SumLaws.{sum_most, sum_least, count_sum}

-- the leaves below a node that is split are those below its children, each below one
children_hold : (h : Hierarchy) → HasShape h → (k x : ℕ) → k < record_count h
    → holds h (s_of h k) x ≡ (holds h (t_of h k) x || holds h (u_of h k) x)
children_hold h shape k x l =
    grind (arith, common_steps, holds-s_from_t, holds-s_from_u, holds-u_from_s, shape_of_nodes)

not_under_u : (h : Hierarchy) → HasShape h → (k x : ℕ) → k < record_count h
    → holds h (t_of h k) x ≡ true → holds h (u_of h k) x ≡ false
not_under_u h shape k x l e = grind (arith, common_steps, not_both, shape_of_nodes)

module _ (h : Hierarchy) (shape : HasShape h) where
  -- the sum and the count of a node, from totals
  pub sum_is : (values : List ℕ) (v : ℕ) → v < node_count h
      → sum_under h values v + total_before h values (interval_of h v).from
      ≡ total_before h values (interval_of h v).until
  unfolding holds
  sum_is values v l =
      let some = some_leaves h shape v l in
      sum_interval (interval_of h v) (value_of h values) (leaf_count h) (omega arith)
      (interval_of-le h (shape_of_nodes h shape) v l)

  pub count_is : (v : ℕ) → v < node_count h
      → count_under h v + (interval_of h v).from ≡ (interval_of h v).until
  unfolding holds
  count_is v l =
      let some = some_leaves h shape v l in
      count_interval (interval_of h v) (leaf_count h) (omega arith)
      (interval_of-le h (shape_of_nodes h shape) v l)

-- Quotients rounded to the nearest

pub rounded-fits : (s n b : ℕ) → 0 < n → s ≤ b * n → rounded s n ≤ b
rounded-fits s n b some most =
    let double : 2 * (b * n) ≡ b * (2 * n) = grind (arith, common_steps) in
    let below = div_below (2 * s + n) (2 * n) (suc b) (omega arith)
    (rw (suc-mul b (2 * n)) (omega arith)) in
    omega arith

pub rounded-least : (s n a : ℕ) → 0 < n → a * n ≤ s → a ≤ rounded s n
rounded-least s n a some least =
    let double : 2 * (a * n) ≡ a * (2 * n) = grind (arith, common_steps) in
    le-div a (2 * s + n) (2 * n) (omega arith) (omega arith)

pub rounded-near : (s n : ℕ) → 0 < n
    → (2 * (n * rounded s n) ≤ 2 * s + n) × (2 * s < 2 * (n * rounded s n) + n)
rounded-near s n some =
    let q = (2 * s + n) / (2 * n) in
    let parts = div-add-mod' (2 * s + n) (2 * n) in
    let rest = mod_below (2 * s + n) (2 * n) (omega arith) in
    let product : q * (2 * n) ≡ 2 * (n * q) = grind (arith, common_steps) in
    (omega arith, omega arith)

-- How many leaves are under a node whose leaves are those from a to just before b.
pub record IsCountAt (h : Hierarchy) (v a b : ℕ) : Type 0 where
  pub some : a < b
  pub most : b ≤ leaf_count h
  pub count : count_under h v + a ≡ b

-- What a table of totals tells of the sum of such a node.
pub record IsSumAt (h : Hierarchy) (values totals : List ℕ) (v a b : ℕ) : Type 0 where
  pub some : a < b
  pub most : b < length totals
  pub sum : sum_under h values v + get_or totals a 0 ≡ get_or totals b 0

module _ (h : Hierarchy) (shape : HasShape h) where
  pub count_at : (v a b : ℕ) → v < node_count h
      → interval_of h v ≡ record { from = a; until = b } → IsCountAt h v a b
  count_at v a b l is =
      let from : (interval_of h v).from ≡ a = ap (λ i. i.from) is in
      let until : (interval_of h v).until ≡ b = ap (λ i. i.until) is in
      let some = some_leaves h shape v l in
      let most = interval_of-le h (shape_of_nodes h shape) v l in
      let count = count_is h shape v l in
      record { some = omega arith; most = omega arith; count = omega arith }

module _ (h : Hierarchy) (shape : HasShape h) (values totals : List ℕ)
    (are : totals ≡ map (total_before h values) (range_with_len 0 (leaf_count h + 1))) where
  total_at : (x : ℕ) → x < leaf_count h + 1 → get_or totals x 0 ≡ total_before h values x
  total_at x l =
      ap (λ t. get_or t x 0) are
      ∙ get_or-map-range_with_len (total_before h values) 0 (leaf_count h + 1) x x 0 l
      (omega arith)

  pub sum_at : (v a b : ℕ) → v < node_count h
      → interval_of h v ≡ record { from = a; until = b } → IsSumAt h values totals v a b
  sum_at v a b l is =
      let from : (interval_of h v).from ≡ a = ap (λ i. i.from) is in
      let until : (interval_of h v).until ≡ b = ap (λ i. i.until) is in
      let count = count_at h shape v a b l is in
      let sum = sum_is h shape values v l in
      let len : length totals ≡ leaf_count h + 1 =
      ap length are ∙ length-map-range_with_len (total_before h values) 0 (leaf_count h + 1) in
      let before = total_at a (omega arith) in
      let after = total_at b (omega arith) in
      record {
        some = omega arith;
        most = omega arith;
        sum = (let e : sum_under h values v + total_before h values a ≡ total_before h values b =
            subst
            (λ x. sum_under h values v + total_before h values x ≡ total_before h values b)
            from
            (subst (λ x. sum_under h values v + total_before h values (interval_of h v).from
            ≡ total_before h values x) until sum) in
            omega arith);
      }

-- what is under a node is small where all is small
pub sum_small : (h : Hierarchy) → HasShape h → (values : List ℕ) (v b : ℕ)
    → length values ≡ leaf_count h → AreAtMost b values
    → sum_under h values v ≤ b * count_under h v
sum_small h shape values v b len most =
    sum_most (holds h v) (value_of h values) b (leaf_count h)
    (λ x l e. most (leaf_input h x - 1) (omega (arith, vertex_below h shape x l)))

-- The laws

pub between : (h : Hierarchy) → HasShape h → (values : List ℕ) (v a b : ℕ) → v < node_count h
    → ((x : ℕ) → x < leaf_count h → Holds h v x
    → (a ≤ value_of h values x) × (value_of h values x ≤ b))
    → (a ≤ mean_of h values v) × (mean_of h values v ≤ b)
unfolding mean_of
between h shape values v a b l all =
    let some = some_leaves h shape v l in
    let count = count_is h shape v l in
    let many : 0 < count_under h v = omega arith in (
      rounded-least (sum_under h values v) (count_under h v) a many
          (sum_least (holds h v) (value_of h values) a (leaf_count h) (λ x m e. (all x m e).0)),
      rounded-fits (sum_under h values v) (count_under h v) b many
          (sum_most (holds h v) (value_of h values) b (leaf_count h) (λ x m e. (all x m e).1)),
    )

-- a node of one leaf
pub own : (h : Hierarchy) → HasShape h → (values : List ℕ) (x : ℕ) → x < leaf_count h
    → mean_of h values (leaf_node_of h x) ≡ value_of h values x
unfolding holds
own h shape values x l =
    let is = leaf_node-alone h shape x l in
    let lies =
    between h shape values (leaf_node_of h x) (value_of h values x) (value_of h values x)
    (leaf_node-lt h shape x l) (λ y m e.
    (let p = within-true _ y e in
    let from : (interval_of h (leaf_node_of h x)).from ≡ x = ap (λ i. i.from) is in
    let until : (interval_of h (leaf_node_of h x)).until ≡ x + 1 = ap (λ i. i.until) is in
    let same : y ≡ x = omega arith in
    (omega (arith, ap (value_of h values) same), omega (arith, ap (value_of h values) same)))) in
    omega (arith, lies.0, lies.1)

-- the leaf of an input vertex has its number
leaf_of_input-is : (h : Hierarchy) → HasShape h → (i : ℕ) → i < leaf_count h
    → (leaf_of_input h i < leaf_count h) × (leaf_input h (leaf_of_input h i) ≡ i + 1)
leaf_of_input-is h shape i l =
    let p : ℕ → Bool = λ x. eqb (leaf_input h x) (i + 1) in
    let numbers = has_input_numbers h shape in
    let (x, below, is) = numbers.leaves.each i l in
    let (k, found) = find_below-has p (leaf_count h) x below (eq-eqb (leaf_input h x) (i + 1) is) in
    let got = find_below-some p (leaf_count h) k found in
    let at : leaf_of_input h i ≡ k = ap (λ o. unwrap_or o 0) found in
    (rw at got.1, rw at (eqb-true (leaf_input h k) (i + 1) got.0))

-- the node of an input vertex
pub comes_back : (h : Hierarchy) → HasShape h → (values : List ℕ) (i : ℕ) → i < leaf_count h
    → mean_of h values (leaf_node_of h (leaf_of_input h i)) ≡ get_or values i 0
comes_back h shape values i l =
    let (below, number) = leaf_of_input-is h shape i l in
    let place : leaf_input h (leaf_of_input h i) - 1 ≡ i = omega arith in
    own h shape values (leaf_of_input h i) below
    ∙ ap (λ k. get_or values k 0) place

-- two children
pub joined : (h : Hierarchy) → HasShape h → (values : List ℕ) (k : ℕ) → k < record_count h
    → (sum_under h values (s_of h k)
    ≡ sum_under h values (t_of h k) + sum_under h values (u_of h k))
    × (count_under h (s_of h k) ≡ count_under h (t_of h k) + count_under h (u_of h k))
joined h shape values k l =
    let nodes = shape_of_nodes h shape in
    let joins = λ (x : ℕ) (m : x < leaf_count h). children_hold h shape k x l in
    let apart = λ (x : ℕ) (m : x < leaf_count h) (e : holds h (t_of h k) x ≡ true).
    not_under_u h shape k x l e in (
      sum_joined (holds h (s_of h k)) (holds h (t_of h k)) (holds h (u_of h k))
          (value_of h values) (leaf_count h) joins apart,
      count_sum (holds h (s_of h k)) (leaf_count h)
          ∙ sum_joined (holds h (s_of h k)) (holds h (t_of h k)) (holds h (u_of h k)) (λ x. 1)
          (leaf_count h) joins apart
          ∙ (let a = count_sum (holds h (t_of h k)) (leaf_count h) in
          let b = count_sum (holds h (u_of h k)) (leaf_count h) in omega arith),
    )

-- the nearest
pub nearest : (h : Hierarchy) → HasShape h → (values : List ℕ) (v : ℕ) → v < node_count h
    → (0 < count_under h v)
    × (2 * (count_under h v * mean_of h values v) ≤ 2 * sum_under h values v + count_under h v)
    × (2 * sum_under h values v < 2 * (count_under h v * mean_of h values v) + count_under h v)
unfolding mean_of
nearest h shape values v l =
    let some = some_leaves h shape v l in
    let count = count_is h shape v l in
    let many : 0 < count_under h v = omega arith in
    let near = rounded-near (sum_under h values v) (count_under h v) many in
    (many, near.0, near.1)
