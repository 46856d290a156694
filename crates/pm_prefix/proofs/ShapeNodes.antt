-- The nodes of the first records: each has a leaf, and no two have one input number.
use Rattle.std.proofs.Common.{◌≡◌, ◌≢◌, ℕ, ◌+◌, ◌*◌, ◌<◌, ◌≤◌, List, [], ◌∷◌, ◌++◌}
use Rattle.std.proofs.Common.{length, get_or, take, true, false, All, inl, inr, refl, sym, ◌∙◌}
use Rattle.std.proofs.Common.{subst, arith}
use Rattle.std.proofs.lemmas.Bool.{cases_eq, eq-eqb, ne_eqb, cond-true, cond-false}
use Rattle.std.proofs.lemmas.List.{get_or-take, length-take-le, take_all}
use Rattle.std.proofs.lemmas.List.Elements.{All-append, All-cons, All-nil, All-head, All-tail}
use Rattle.std.proofs.lemmas.List.Elements.{All-map, All-from_get_or, All-push}
use Rattle.std.specs.List.{flat_map}
use Rattle.pm_base.specs.Place.{is_place}
use Rattle.pm_forest.specs.declared.parts.Root.{Root}
use Rattle.pm_forest.specs.declared.parts.Record.{Record}
use Rattle.pm_forest.specs.Forest.{Hierarchy, Interval, no_record, record_at, record_count}
use Rattle.pm_forest.specs.Forest.{widths, leaf_count, root_of, s_of, t_of, u_of}
use Rattle.pm_forest.specs.Forest.{interval_of, HasForestShape, node_count, within, holds}
use Rattle.pm_forest.specs.Faces.{first_face, no_face_corners}
use Rattle.pm_forest.specs.Places.{no_root}
use Rattle.pm_forest.specs.Rules.{root_inputs, child_inputs, node_inputs}
use Rattle.pm_forest.specs.Rules.{vertex_input_is_bad}
use Rattle.pm_forest.proofs.Ancestors.{leaf-node}
use Rattle.pm_forest.proofs.UnitLaws.{BaseFits}
use Rattle.pm_forest.proofs.Prefix.{cut}
use Rattle.pm_forest.proofs.LeafNodes.{interval_of-le}
use Rattle.pm_forest.proofs.ShapeLaws.{RecordFits}
use Rattle.pm_prefix.specs.Prefix.{begins, begun_before, leaf_in, interval_in, width_in}
use Rattle.pm_prefix.specs.Prefix.{input_in, root_in, base_in, record_in}
use Rattle.pm_prefix.proofs.Ranks.{begun_mono, begun_above}
use Rattle.pm_prefix.proofs.ShapeTests.{unused_by, vertex_input_passes}

-- What is right with the units of h.
pub record AreUnits (h : Hierarchy) : Type 0 where
  pub forest : HasForestShape h
  pub some : (v : ℕ) → v < node_count h → (interval_of h v).from < (interval_of h v).until
  pub places : (v : ℕ) → v < length h.roots
      → is_place (get_or h.roots v no_root).place ≡ true
  pub base_most : length h.bases ≤ 1048576
  pub bases : All (BaseFits h.roots) h.bases
  pub records : (k : ℕ) → k < record_count h → RecordFits h k

-- What g has of h, where it is h's first n records.
pub record AreFirst (h : Hierarchy) (n : ℕ) (g : Hierarchy) : Type 0 where
  pub most : n ≤ record_count h
  pub root_count : length g.roots ≡ length h.roots
  pub roots : (v : ℕ) → v < length h.roots → get_or g.roots v no_root ≡ root_in h n v
  pub base_count : length g.bases ≡ length h.bases
  pub bases : (f : ℕ) → f < length h.bases → get_or g.bases f no_face_corners ≡ base_in h n f
  pub count : record_count g ≡ n
  pub records : (k : ℕ) → k < n → record_at g k ≡ record_in h n k
  pub nodes : (k : ℕ) → k < n → s_of g k ≡ s_of h k
  pub faces : (k : ℕ) → k ≤ n → first_face g k ≡ first_face h k
  pub begin : (v : ℕ) → v < length h.roots + 2 * n → begins h n (interval_of h v).from ≡ true
  pub total : begun_before h n (leaf_count h) ≡ length h.roots + n
  pub leaves : leaf_count g ≡ length h.roots + n
  pub intervals : (v : ℕ) → v < length h.roots + 2 * n
      → interval_of g v ≡ interval_in h n (interval_of h v)
  pub leaf : (x : ℕ) → x < leaf_count h → leaf_in h n x < length h.roots + n
  pub forest : HasForestShape g
  pub held : (v x : ℕ) → v < length h.roots + 2 * n → x < leaf_count h
      → within (interval_in h n (interval_of h v)) (leaf_in h n x) ≡ holds h v x
  pub owners : (x : ℕ) → x < leaf_count h
      → root_of (widths g) 0 (leaf_in h n x) ≡ root_of (widths h) 0 x

-- what each item of each list has, all items of the joined lists have
pub All-flat_map : {X A : Type 0} (P : A → Type 0) (f : X → List A) (xs : List X) →
    All (λ x. All P (f x)) xs → All P (flat_map f xs)
All-flat_map P f [] all = All-nil P
All-flat_map P f (x ∷ xs) all =
    All-append P (f x) (flat_map f xs) (All-head (λ y. All P (f y)) x xs all)
    (All-flat_map P f xs (All-tail (λ y. All P (f y)) x xs all))

-- an interval is its two ends
interval_of_ends : (i : Interval) (a b : ℕ) → i.from ≡ a → i.until ≡ b →
    i ≡ record { from = a; until = b }
interval_of_ends i a b from until = rw (← from, ← until) refl

module _ (h : Hierarchy) (units : AreUnits h) (n : ℕ) (g : Hierarchy) (are : AreFirst h n g) where
  -- no node is without leaves
  pub wide : (v : ℕ) → v < length h.roots + 2 * n → 0 < width_in h n (interval_of h v)
  wide v m =
      let most = are.most in
      let some = units.some v (omega arith) in
      let more = begun_above h n (interval_of h v).from (interval_of h v).until
      (are.begin v m) some in
      omega arith

  -- Input numbers

  abbrev input_at : ℕ → ℕ
  input_at v = input_in h n (interval_of h v)

  abbrev first_at : ℕ → ℕ
  first_at v = begun_before h n (interval_of h v).from

  single : (v : ℕ) → v < length h.roots + 2 * n → width_in h n (interval_of h v) ≡ 1
      → interval_of g v ≡ record { from = first_at v; until = first_at v + 1 }
  single v m one =
      are.intervals v m
      ∙ interval_of_ends (interval_in h n (interval_of h v)) (first_at v) (first_at v + 1) refl
      (omega arith)

  same_node : (a b : ℕ) → a < length h.roots + 2 * n → b < length h.roots + 2 * n
      → width_in h n (interval_of h a) ≡ 1 → width_in h n (interval_of h b) ≡ 1
      → first_at a ≡ first_at b → a ≡ b
  same_node a b l_a l_b one_a one_b same =
      let roots = are.root_count in
      let count = are.count in
      let of_a = leaf-node g are.forest a (first_at a) (omega arith) (single a l_a one_a) in
      let of_b = leaf-node g are.forest b (first_at b) (omega arith) (single b l_b one_b) in
      sym of_a ∙ rw same of_b

  -- no other node has the input number of a node of one leaf
  apart : (a b : ℕ) → a < b → b < length h.roots + 2 * n → width_in h n (interval_of h b) ≡ 1
      → input_at a ≢ first_at b + 1
  apart a b lt m one =
      elim (cases_eq (width_in h n (interval_of h a)) 1) [
        | inl is ↦ λ e.
            let same : a ≡ b = same_node a b (omega arith) m is one
            (omega (arith, sym (cond-true _ (first_at a + 1) 0 (eq-eqb _ 1 is)) ∙ e)) in
            absurd (omega arith)
        | inr ne ↦ λ e.
            absurd (omega (arith, sym (cond-false _ (first_at a + 1) 0 (ne_eqb _ 1 ne)) ∙ e))
      ]

  -- the input number of a node that no earlier node has
  pub input_passes : (b : ℕ) → b < length h.roots + 2 * n → (used : List ℕ)
      → (width_in h n (interval_of h b) ≡ 1 → All (λ m. m ≢ first_at b + 1) used)
      → vertex_input_is_bad (leaf_count g) used (width_in h n (interval_of h b)) (input_at b)
      ≡ false
  input_passes b m used differ =
      let few = are.most in
      let most = interval_of-le h units.forest b (omega arith) in
      let bound = begun_mono h n (interval_of h b).until (leaf_count h) most in
      let total = are.total in
      let leaves = are.leaves in
      vertex_input_passes (leaf_count g) used (width_in h n (interval_of h b)) (input_at b)
      (λ one.
      let is : input_at b ≡ first_at b + 1 = cond-true _ (first_at b + 1) 0 (eq-eqb _ 1 one) in
      (omega arith, omega arith, rw is (unused_by used (first_at b + 1) (differ one))))
      (λ other. cond-false _ (first_at b + 1) 0 (ne_eqb _ 1 other))

  -- the input numbers of the roots and of the first k records' children
  roots_apart : (v b : ℕ) → v ≤ length h.roots → v ≤ b → b < length h.roots + 2 * n
      → width_in h n (interval_of h b) ≡ 1
      → All (λ m. m ≢ first_at b + 1) (root_inputs (take v g.roots))
  unfolding root_in
  roots_apart v b most lt m one =
      let P : ℕ → Type 0 = λ m. m ≢ first_at b + 1 in
      let roots = are.root_count in
      let count = length-take-le v g.roots (omega arith) in
      All-map P (λ (r : Root). r.input) (take v g.roots)
      (All-from_get_or (λ (r : Root). P r.input) (take v g.roots) no_root
      (λ i a. rw (get_or-take v g.roots i no_root (omega arith), are.roots i (omega arith))
      (apart i b (omega arith) m one)))

  children_apart : (k b : ℕ) → k ≤ n → length h.roots + 2 * k ≤ b → b < length h.roots + 2 * n
      → width_in h n (interval_of h b) ≡ 1
      → All (λ m. m ≢ first_at b + 1) (flat_map child_inputs (take k g.records))
  unfolding record_in
  children_apart k b most lt m one =
      let P : ℕ → Type 0 = λ m. m ≢ first_at b + 1 in
      let count = are.count in
      let total = length-take-le k g.records (omega arith) in
      All-flat_map P child_inputs (take k g.records)
      (All-from_get_or (λ (r : Record). All P (child_inputs r)) (take k g.records) no_record
      (λ i a.
      let is : get_or (take k g.records) i no_record ≡ record_in h n i =
      get_or-take k g.records i no_record (omega arith) ∙ are.records i (omega arith) in
      let both : All P (child_inputs (record_in h n i)) =
      All-cons P (input_at (t_of h i)) (input_at (u_of h i) ∷ [])
      (apart (t_of h i) b (omega arith) m one)
      (All-cons P (input_at (u_of h i)) [] (apart (u_of h i) b (omega arith) m one)
      (All-nil P)) in
      subst (λ (r : Record). All P (child_inputs r)) (sym is) both))

  pub root_passes : (v : ℕ) → v < length h.roots →
      vertex_input_is_bad (leaf_count g) (root_inputs (take v g.roots))
      (width_in h n (interval_of h v)) (input_at v) ≡ false
  root_passes v m =
      input_passes v (omega arith) (root_inputs (take v g.roots))
      (λ one. roots_apart v v (omega arith) (omega arith) (omega arith) one)

  nodes_apart : (k b : ℕ) → k ≤ n → length h.roots + 2 * k ≤ b → b < length h.roots + 2 * n
      → width_in h n (interval_of h b) ≡ 1
      → All (λ m. m ≢ first_at b + 1) (node_inputs (cut g k))
  nodes_apart k b most lt m one =
      let P : ℕ → Type 0 = λ m. m ≢ first_at b + 1 in
      let all : All P (root_inputs g.roots) =
      rw (take_all (length h.roots) g.roots (omega (arith, are.root_count))) at
      (roots_apart (length h.roots) b (omega arith) (omega arith) m one) in
      All-append P (root_inputs g.roots) (flat_map child_inputs (take k g.records)) all
      (children_apart k b most lt m one)

  pub t_passes : (k : ℕ) → k < n →
      vertex_input_is_bad (leaf_count g) (node_inputs (cut g k))
      (width_in h n (interval_of h (t_of h k))) (input_at (t_of h k)) ≡ false
  t_passes k m =
      input_passes (t_of h k) (omega arith) (node_inputs (cut g k))
      (λ one. nodes_apart k (t_of h k) (omega arith) (omega arith) (omega arith) one)

  pub u_passes : (k : ℕ) → k < n →
      vertex_input_is_bad (leaf_count g) (node_inputs (cut g k) ++ input_at (t_of h k) ∷ [])
      (width_in h n (interval_of h (u_of h k))) (input_at (u_of h k)) ≡ false
  u_passes k m =
      input_passes (u_of h k) (omega arith) (node_inputs (cut g k) ++ input_at (t_of h k) ∷ [])
      (λ one.
      let P : ℕ → Type 0 = λ m. m ≢ first_at (u_of h k) + 1 in
      All-push P (node_inputs (cut g k)) (input_at (t_of h k))
      (nodes_apart k (u_of h k) (omega arith) (omega arith) (omega arith) one)
      (apart (t_of h k) (u_of h k) (omega arith) (omega arith) one))
