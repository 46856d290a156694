-- The numbers of leaves, by those of the input's vertices.
use Rattle.std.proofs.Common.{◌≡◌, ℕ, zero, suc, ◌-◌, ◌<◌, true, List, length}
use Rattle.std.proofs.Common.{get_or, inl, inr, sym, subst, ◌∙◌, arith}
use Rattle.std.proofs.lemmas.Bool.{cases_Bool, leb-true, false≢true}
use Rattle.std.proofs.lemmas.List.Folds.{list_all_at}
use Rattle.std.proofs.lemmas.List.FromFn.{get_or-map-range_with_len, length-map-range_with_len}
use Rattle.std.specs.List.{list_all}
use Rattle.std.specs.Prelude.{ℤ, pos}
use Rattle.pm_forest.specs.Forest.{Hierarchy, node_count, leaf_count}
use Rattle.pm_forest.specs.Rules.{HasShape}
use Rattle.pm_forest.specs.Tables.{leaf_node_of}
use Rattle.pm_forest.specs.Meshes.{input_of_node, leaf_input}
use Rattle.pm_forest.proofs.HierarchyLaws.{leaf_node-lt}
use Rattle.pm_forest.proofs.InputLaws.{some_input}
use Rattle.pm_forest.proofs.MeshLaws.{vertex_below}
use Rattle.pm_paint.specs.Inputs.{vertex_told, vertices_by_node}
use Rattle.pm_fits.specs.Faults.{is_number}
use Rattle.pm_fits.specs.Fits.{IsNumber, AreNumbers, number_of, number_at, numbers_by_leaf}

pub all_numbers : (values : List ℤ) → list_all is_number values ≡ true → AreNumbers values
all_numbers values all i l =
    elim (cases_Bool (is_number (get_or values i (pos 0)))) [
      | inl e ↦ leb-true _ _ e
      | inr e ↦
          absurd (false≢true (sym (list_all_at is_number values i (pos 0) l e) ∙ all))
    ]

told : (n : ℕ) → 0 < n → vertex_told n ≡ n - 1
told zero l = absurd (omega arith)
told (suc n) l = omega arith

module _ (h : Hierarchy) (shape : HasShape h) where
  -- the vertex of a leaf, by the table of all nodes
  pub vertex_is : (x : ℕ) → x < leaf_count h
      → get_or (vertices_by_node h) (leaf_node_of h x) 0 ≡ leaf_input h x - 1
  unfolding vertices_by_node
  vertex_is x l =
      let node = leaf_node-lt h shape x l in
      get_or-map-range_with_len (λ v. vertex_told (input_of_node h v)) 0 (node_count h)
      (leaf_node_of h x) (leaf_node_of h x) 0 node (omega arith)
      ∙ told (leaf_input h x) (some_input h shape x l)

  pub vertex_inside : (x : ℕ) → x < leaf_count h → leaf_node_of h x < length (vertices_by_node h)
  unfolding vertices_by_node
  vertex_inside x l =
      let node = leaf_node-lt h shape x l in
      let len = length-map-range_with_len (λ v. vertex_told (input_of_node h v)) 0 (node_count h) in
      omega arith

module _ (h : Hierarchy) (values : List ℤ) where
  pub length-numbers_by_leaf : length (numbers_by_leaf h values) ≡ leaf_count h
  unfolding numbers_by_leaf
  length-numbers_by_leaf = length-map-range_with_len (number_of h values) 0 (leaf_count h)

  pub number_at-by_leaf : (x : ℕ) → x < leaf_count h
      → number_at (numbers_by_leaf h values) x ≡ number_of h values x
  unfolding numbers_by_leaf
  number_at-by_leaf x l =
      get_or-map-range_with_len (number_of h values) 0 (leaf_count h) x x (pos 0) l (omega arith)

  pub numbers_small : HasShape h → length values ≡ leaf_count h → AreNumbers values
      → AreNumbers (numbers_by_leaf h values)
  numbers_small shape len small x l =
      let below : x < leaf_count h = omega (arith, length-numbers_by_leaf) in
      let vertex = vertex_below h shape x below in
      subst IsNumber (sym (number_at-by_leaf x below))
      (small (leaf_input h x - 1) (omega (arith, vertex, len)))
