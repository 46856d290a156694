-- The full front has the Euler number of the leaf mesh, and so has every closed front of a firm
-- hierarchy.
use Rattle.std.proofs.Common.{◌≡◌, ℕ, zero, suc, ◌+◌, ◌*◌, ◌/◌, ◌<◌, ◌≤◌, ltb, Bool, true, ◌&&◌}
use Rattle.std.proofs.lemmas.Grind.{common_steps}
use Rattle.std.proofs.Common.{length, inl, inr, refl, sym, ap, ◌∙◌, arith}
use Rattle.std.specs.Prelude.{is_some, is_none, pos, ◌+ℤ◌, ◌-ℤ◌}
use Rattle.std.proofs.lemmas.Bool.{and_from, and_right, lt-ltb, le-ltb, false≢true}
use Rattle.pm_base.specs.Counts.{count}
use Rattle.pm_base.specs.Sides.{face_of}
use Rattle.pm_base.proofs.Counts.{count_same, met, met-parts, met-from, met-count}
use Rattle.pm_forest.specs.Forest.{Hierarchy, record_count, node_count, leaf_count}
use Rattle.pm_forest.specs.Fronts.{IsFront, is_active, no_records, every}
use Rattle.pm_forest.specs.Faces.{face_count, IsForest}
use Rattle.pm_forest.specs.Kept.{is_kept}
use Rattle.pm_forest.proofs.Active.{is_active-true, is_active-from}
use Rattle.pm_forest.proofs.ShapeLaws.{record_count-roots}
use Rattle.pm_forest.proofs.Shown.{kept-shown}
use Rattle.pm_beyond.specs.Walks.{leaf_net, leaf_twin, beyond_of}
use Rattle.pm_beyond.specs.Moves.{IsClosed}
use Rattle.pm_beyond.proofs.Twins.{shown_every}
use Rattle.pm_beyond.proofs.Reaching.{kept_at_side}
use Rattle.pm_beyond.proofs.Standing.{forest_of, closed-front, needs-older}
use Rattle.pm_beyond.proofs.Closed.{may_split-from}
use Rattle.pm_beyond.proofs.WalkTheory as walks
use Rattle.pm_beyond.proofs.PlanLists.{same_bools}
use Rattle.pm_firm.specs.Firm.{IsFirm}
use Rattle.pm_firm.proofs.FirmFronts.{rising, rise-none, rise-with, rise-closed, rise-all}
use Rattle.pm_manifold.specs.Measure.{is_border_side, is_joined_side, nodes_shown, faces_shown}
use Rattle.pm_manifold.specs.Measure.{border_sides, joined_sides, edges_shown, euler_of, edges_of}
use Rattle.pm_manifold.specs.Laws as law
use Rattle.pm_manifold.proofs.BorderSides.{stands_as}
use Rattle.pm_base.proofs.Counted.{count_all}
use Rattle.pm_manifold.proofs.Euler.{nodes_same, as_base}
use Rattle.pm_manifold.proofs.SplitCounts.{nodes_more}

every_closed : (h : Hierarchy) → IsClosed h every
every_closed h j k l t needs = refl

true_and : (a b c : Bool) → a ≡ true → b ≡ c → (a && b) ≡ c
true_and a b c t is = grind (arith, common_steps, and_from, and_right)

module _ (h : Hierarchy) (firm : IsFirm h) where
  abbrev tree : IsForest h
  tree = forest_of h firm.valid

  -- The base front has the roots, and each split adds a node.
  base_nodes : nodes_shown h no_records ≡ length h.roots
  base_nodes =
      let own : ℕ → ℕ = λ i. i in
      let all = met-count own (length h.roots) (node_count h) (λ i j a b is. let same : i ≡ j =
      is in absurd (omega arith)) (λ i l. let low : i < node_count h = omega arith in low) in
      count_same (is_active h no_records) (met own (length h.roots)) (node_count h)
      (λ v l. same_bools (is_active h no_records v) (met own (length h.roots) v)
      (λ t. elim (is_active-true h tree.forest no_records v l t).0 [
        | inl root ↦ met-from own (length h.roots) v root
        | inr (j, jl, f, m) ↦ absurd (false≢true f)
      ])
      (λ t.
      let (i, il, is) = met-parts own (length h.roots) v t in
      let same : v ≡ i = is in
      let root : v < length h.roots = omega arith in
      is_active-from h tree.forest no_records v (inl root, λ k kl f. absurd (false≢true f)))) ∙ all

  risen_nodes : (j : ℕ) → j ≤ record_count h → nodes_shown h (rising every j) ≡ length h.roots + j
  risen_nodes zero l = let z : length h.roots ≡ length h.roots + 0 =
      omega arith in ap (nodes_shown h) (rise-none every) ∙ base_nodes ∙ z
  risen_nodes (suc j) l =
      let low = rise-closed h firm every (every_closed h) j in
      let jl : j < record_count h = omega arith in
      let may = may_split-from h firm.valid.shape (rising every j) low j jl
      (and_right (every j) (ltb j j) (le-ltb j j (omega arith))) (λ i needs.
      and_from (every i) (ltb i j) refl (lt-ltb i j (needs-older h firm.valid.shape j i jl needs)))
      in
      let more = nodes_more h firm.valid (rising every j) low j jl may in
      let before = risen_nodes j (omega arith) in
      ap (nodes_shown h) (sym (rise-with every j refl)) ∙ more ∙ ap (λ x. x + 1) before
      ∙ omega arith

  abbrev front : IsFront h every
  front = closed-front h every (every_closed h)

  full_nodes : nodes_shown h every ≡ leaf_count h
  full_nodes =
      let n = record_count h in
      let low = closed-front h (rising every n) (rise-closed h firm every (every_closed h) n) in
      let same = nodes_same h firm.valid (rising every n) every low front (rise-all every n) in
      let all = risen_nodes n (omega arith) in
      let counts = record_count-roots h firm.valid.shape in
      sym same ∙ all ∙ omega arith

  full_kept : (f : ℕ) → f < face_count h → is_kept h every f ≡ true
  full_kept f l = kept-shown h tree every front f l ∙ shown_every h (3 * f)

  full_faces : faces_shown h every ≡ face_count h
  full_faces = count_all (is_kept h every) (face_count h) full_kept

  full_beyond : (e : ℕ) → e < 3 * face_count h → beyond_of h every e ≡ leaf_twin h e
  full_beyond e l =
      stands_as h firm.valid every front e (leaf_twin h e) l (shown_every h e)
      (walks.full h tree firm.valid.no_side_twice e l)

  kept_here : (e : ℕ) → e < 3 * face_count h → is_kept h every (face_of e) ≡ true
  kept_here e l = kept_at_side h tree every front e l ∙ shown_every h e

  full_borders : border_sides h every ≡ count (λ e. is_none (leaf_twin h e)) (3 * face_count h)
  unfolding is_border_side
  full_borders = grind (arith, common_steps, count_same, full_beyond, kept_here, true_and)

  full_joined : joined_sides h every ≡ count (λ e. is_some (leaf_twin h e)) (3 * face_count h)
  unfolding is_joined_side
  full_joined = grind (arith, common_steps, count_same, full_beyond, kept_here, true_and)

  full_edges : edges_shown h every ≡ edges_of (leaf_net h)
  full_edges =
      ap (λ x. x + joined_sides h every / 2) full_borders
      ∙ ap (λ x. count (λ e. is_none (leaf_twin h e)) (3 * face_count h) + x / 2) full_joined

  pub full_euler : euler_of h every ≡ pos (leaf_count h) -ℤ pos (edges_of (leaf_net h)) +ℤ pos
      (face_count h)
  unfolding euler_of
  full_euler = grind (arith, common_steps, full_edges, full_faces, full_nodes)

pub euler_stays : law.EulerNumbersStay
euler_stays h firm T closed =
    as_base h firm T closed ∙ sym (as_base h firm every (every_closed h)) ∙ full_euler h firm
