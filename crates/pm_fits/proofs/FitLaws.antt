-- What fits keep of the numbers under their nodes.
use Rattle.std.proofs.Common.{◌≡◌, ℕ, ◌+◌, ◌-◌, ◌<◌, ◌≤◌, Bool, List, get_or, refl, sym, ap, subst}
use Rattle.std.proofs.Common.{◌∙◌, eqb, arith}
use Rattle.std.proofs.lemmas.Bool.{eqb-true, eq-eqb}
use Rattle.std.proofs.lemmas.Int.{clamps}
use Rattle.std.specs.Prelude.{ℤ, pos, ◌≤ℤ◌}
use Rattle.std.specs.Option.{unwrap_or}
use borrow.Author.Differences.{ints}
use Rattle.pm_base.proofs.Search.{find_below-has, find_below-some}
use Rattle.pm_forest.specs.Forest.{Hierarchy, node_count, leaf_count, Holds, holds, interval_of}
use Rattle.pm_forest.specs.Rules.{HasShape}
use Rattle.pm_forest.specs.Tables.{leaf_node_of}
use Rattle.pm_forest.specs.Meshes.{leaf_input, leaf_of_input}
use Rattle.pm_forest.proofs.HierarchyLaws.{some_leaves, leaf_node-alone, leaf_node-lt}
use Rattle.pm_forest.proofs.LeafNodes.{interval_of-le}
use Rattle.pm_forest.proofs.MeshLaws.{has_input_numbers}
use Rattle.pm_forest.proofs.Nodes.{within-true, within-from}
use Rattle.pm_forest.proofs.ShapeLaws.{shape_of_nodes}
use Rattle.pm_fits.specs.declared.ranges.Range.{Range}
use Rattle.pm_fits.specs.Fits.{number_of, number_at, numbers_by_leaf}
use Rattle.pm_fits.specs.Fits.{brought_within, fit_under, fit_at}
use Rattle.pm_fits.proofs.NumberLaws.{number_at-by_leaf}
use Rattle.pm_fits.proofs.RangeLaws.{least_above, least_below, greatest_below, row, range_is}

brought-above : (r : Range) (a n : ℤ) → a ≤ℤ r.least → a ≤ℤ brought_within r n
brought-above r a n l = omega (arith, ints, clamps, l)

brought-below : (r : Range) (b n : ℤ) → r.least ≤ℤ b → r.greatest ≤ℤ b → brought_within r n ≤ℤ b
brought-below r b n l m = omega (arith, ints, clamps, l, m)

module _ (h : Hierarchy) (shape : HasShape h) (values : List ℤ) where
  pub between : (v : ℕ) (a b : ℤ) → v < node_count h
      → ((x : ℕ) → x < leaf_count h → Holds h v x
      → (a ≤ℤ number_of h values x) × (number_of h values x ≤ℤ b))
      → (a ≤ℤ fit_at h values v) × (fit_at h values v ≤ℤ b)
  unfolding fit_under holds
  between v a b l all =
      let i = interval_of h v in
      let some = some_leaves h shape v l in
      let last = interval_of-le h (shape_of_nodes h shape) v l in
      let numbers = numbers_by_leaf h values in
      let f = number_at numbers in
      let n = i.until - i.from - 1 in
      let each : (x : ℕ) → i.from ≤ x → x ≤ i.from + n → (a ≤ℤ f x) × (f x ≤ℤ b) =
      λ x low high. (let below : x < leaf_count h = omega (arith, some, last) in
      subst (λ z. (a ≤ℤ z) × (z ≤ℤ b)) (sym (number_at-by_leaf h values x below))
      (all x below (within-from i x low (omega (arith, some))))) in
      let is = range_is h numbers v i refl in
      let least = least_above f i.from n a (λ x low high. (each x low high).0) in
      let first = each i.from (omega arith) (omega arith) in
      let lower = least_below f i.from n in
      let greatest = greatest_below f i.from n b (λ x low high. (each x low high).1) in
      rw is (
        brought-above (row f i.from n) a _ least,
        brought-below (row f i.from n) b _ (omega (arith, ints, lower, first.1)) greatest,
      )

  pub equal : (v : ℕ) (a : ℤ) → v < node_count h
      → ((x : ℕ) → x < leaf_count h → Holds h v x → number_of h values x ≡ a)
      → fit_at h values v ≡ a
  equal v a l all =
      let lies = between v a a l (λ x m e. subst (λ z. (a ≤ℤ z) × (z ≤ℤ a)) (sym (all x m e))
      (omega (arith, ints), omega (arith, ints))) in
      omega (arith, ints, lies.0, lies.1)

  pub own : (x : ℕ) → x < leaf_count h → fit_at h values (leaf_node_of h x) ≡ number_of h values x
  unfolding holds
  own x l =
      let is = leaf_node-alone h shape x l in
      let from : (interval_of h (leaf_node_of h x)).from ≡ x = ap (λ i. i.from) is in
      let until : (interval_of h (leaf_node_of h x)).until ≡ x + 1 = ap (λ i. i.until) is in
      equal (leaf_node_of h x) (number_of h values x) (leaf_node-lt h shape x l)
      (λ y m e. (let p = within-true _ y e in
      let same : y ≡ x = omega arith in
      ap (number_of h values) same))

  -- the leaf of an input vertex has its number
  leaf_of_input-is : (i : ℕ) → i < leaf_count h
      → (leaf_of_input h i < leaf_count h) × (leaf_input h (leaf_of_input h i) ≡ i + 1)
  leaf_of_input-is i l =
      let p : ℕ → Bool = λ x. eqb (leaf_input h x) (i + 1) in
      let numbers = has_input_numbers h shape in
      let (x, below, is) = numbers.leaves.each i l in
      let (k, found) = find_below-has p (leaf_count h) x below
      (eq-eqb (leaf_input h x) (i + 1) is) in
      let got = find_below-some p (leaf_count h) k found in
      let at : leaf_of_input h i ≡ k = ap (λ o. unwrap_or o 0) found in
      (rw at got.1, rw at (eqb-true (leaf_input h k) (i + 1) got.0))

  pub comes_back : (i : ℕ) → i < leaf_count h
      → fit_at h values (leaf_node_of h (leaf_of_input h i)) ≡ get_or values i (pos 0)
  comes_back i l =
      let (below, number) = leaf_of_input-is i l in
      let place : leaf_input h (leaf_of_input h i) - 1 ≡ i = omega arith in
      own (leaf_of_input h i) below ∙ ap (λ k. get_or values k (pos 0)) place
