-- The Euler number is the same in every closed front of a firm hierarchy as in the base front.
use Rattle.std.proofs.Common.{◌≡◌, ℕ, zero, suc, ◌+◌, ◌*◌, ◌<◌, ◌≤◌, ltb, Bool, true, false, None}
use Rattle.std.proofs.lemmas.Grind.{common_steps}
use Rattle.std.proofs.Common.{inl, inr, sym, ap, ◌∙◌, arith}
use Rattle.std.specs.Prelude.{pos, ◌+ℤ◌, ◌-ℤ◌}
use borrow.Author.Differences.{ints}
use Rattle.std.proofs.lemmas.Bool.{cases_Bool, and_from, and_right, lt-ltb, le-ltb}
use Rattle.pm_base.proofs.Counts.{count_same}
use Rattle.pm_forest.specs.Forest.{Hierarchy, record_count, node_count}
use Rattle.pm_forest.specs.Fronts.{IsFront, IsActive, is_active, no_records, with}
use Rattle.pm_forest.specs.Faces.{face_count, IsForest}
use Rattle.pm_forest.specs.Kept.{is_kept}
use Rattle.pm_forest.proofs.Active.{is_active-true, is_active-from}
use Rattle.pm_forest.proofs.Shown.{kept-shown}
use Rattle.pm_beyond.specs.Moves.{Needs, IsClosed}
use Rattle.pm_beyond.specs.Valid.{IsValid}
use Rattle.pm_beyond.proofs.Standing.{forest_of, closed-front, needs-older}
use Rattle.pm_beyond.proofs.Closed.{may_split-from}
use Rattle.pm_beyond.proofs.PlanLists.{same_bools}
use Rattle.pm_firm.specs.Firm.{IsFirm}
use Rattle.pm_firm.proofs.FirmFronts.{rising, rise-none, rise-with, rise-without, rise-closed}
use Rattle.pm_firm.proofs.FirmFronts.{rise-all}
use Rattle.pm_firm.proofs.SameSets.{shown-same, beyond-same}
use Rattle.pm_manifold.specs.Measure.{is_border_side, nodes_shown, faces_shown, border_sides}
use Rattle.pm_manifold.specs.Measure.{edges_shown, euler_of}
use Rattle.pm_manifold.proofs.BorderSides.{border-parts, border-from}
use Rattle.pm_manifold.proofs.SplitCounts.{sides_shown, grows}

-- Sets that agree on the hierarchy's records have the same measure.
module _ (h : Hierarchy) (valid : IsValid h) (T E : ℕ → Bool) (front : IsFront h T)
    (front' : IsFront h E) (same : (k : ℕ) → k < record_count h → T k ≡ E k) where
  abbrev tree : IsForest h
  tree = forest_of h valid

  active_same : (D F : ℕ → Bool) → ((k : ℕ) → k < record_count h → D k ≡ F k) → (v : ℕ)
      → IsActive h D v → IsActive h F v
  active_same D F alike v active = grind (arith, common_steps)

  pub nodes_same : nodes_shown h T ≡ nodes_shown h E
  nodes_same =
      count_same (is_active h T) (is_active h E) (node_count h)
      (λ v l. same_bools (is_active h T v) (is_active h E v)
      (λ t. is_active-from h tree.forest E v
      (active_same T E same v (is_active-true h tree.forest T v l t)))
      (λ t. is_active-from h tree.forest T v
      (active_same E T (λ k l. sym (same k l)) v (is_active-true h tree.forest E v l t))))

  faces_same : faces_shown h T ≡ faces_shown h E
  faces_same =
      count_same (is_kept h T) (is_kept h E) (face_count h) (λ f l. kept-shown h tree T front f l
      ∙ shown-same h T E same (3 * f) (omega arith) ∙ sym (kept-shown h tree E front' f l))

  borders_same : border_sides h T ≡ border_sides h E
  borders_same =
      count_same (is_border_side h T) (is_border_side h E) (3 * face_count h)
      (λ e l. same_bools (is_border_side h T e) (is_border_side h E e)
      (λ t. let p = border-parts h valid T front e l t in
      border-from h valid E front' e l (sym (shown-same h T E same e l) ∙ p.0)
      (beyond-same h T E same tree valid.no_side_twice e None p.1))
      (λ t. let p = border-parts h valid E front' e l t in
      border-from h valid T front e l (shown-same h T E same e l ∙ p.0)
      (beyond-same h E T (λ k l. sym (same k l)) tree valid.no_side_twice e None p.1)))

  pub euler-same : euler_of h T ≡ euler_of h E
  unfolding euler_of
  euler-same = grind (arith, common_steps, borders_same, faces_same, nodes_same, sides_shown)

grown : (n e f m : ℕ) → pos (n + 1) -ℤ pos (e + m + 1) +ℤ pos (f + m) ≡ pos n -ℤ pos e +ℤ pos f
grown n e f m = omega (arith, ints)

module _ (h : Hierarchy) (firm : IsFirm h) where
  split-euler : (T : ℕ → Bool) → IsClosed h T → (k : ℕ) → k < record_count h → T k ≡ false
      → ((i : ℕ) → Needs h k i → T i ≡ true) → euler_of h (with T k) ≡ euler_of h T
  unfolding euler_of
  split-euler T closed k l off has =
      let may = may_split-from h firm.valid.shape T closed k l off has in
      let g = grows h firm.valid T closed k l may (firm.held k l) in
      let (m, faces, edges) = g.more in
      ap (λ x. pos x -ℤ pos (edges_shown h (with T k)) +ℤ pos (faces_shown h (with T k))) g.nodes
      ∙ ap (λ x. pos (nodes_shown h T + 1) -ℤ pos x +ℤ pos (faces_shown h (with T k))) edges
      ∙ ap (λ x. pos (nodes_shown h T + 1) -ℤ pos (edges_shown h T + m + 1) +ℤ pos x) faces
      ∙ grown (nodes_shown h T) (edges_shown h T) (faces_shown h T) m

  module _ (T : ℕ → Bool) (closed : IsClosed h T) where
    rise : (j : ℕ) → j ≤ record_count h → euler_of h (rising T j) ≡ euler_of h no_records
    rise zero l = ap (euler_of h) (rise-none T)
    rise (suc j) l =
        let good = rise j (omega arith) in
        elim (cases_Bool (T j)) [
          | inr out ↦ ap (euler_of h) (sym (rise-without T j out)) ∙ good
          | inl t ↦
              let jl : j < record_count h = omega arith in
              ap (euler_of h) (sym (rise-with T j t))
              ∙ split-euler (rising T j) (rise-closed h firm T closed j) j jl
              (and_right (T j) (ltb j j) (le-ltb j j (omega arith))) (λ i needs.
              let o = needs-older h firm.valid.shape j i jl needs in
              and_from (T i) (ltb i j) (closed j i jl t needs) (lt-ltb i j o))
              ∙ good
        ]

    pub as_base : euler_of h T ≡ euler_of h no_records
    as_base =
        let n = record_count h in
        let low = rise-closed h firm T closed n in
        sym (euler-same h firm.valid (rising T n) T (closed-front h (rising T n) low)
        (closed-front h T closed) (rise-all T n))
        ∙ rise n (omega arith)
