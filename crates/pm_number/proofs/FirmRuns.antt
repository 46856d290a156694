-- The hierarchy of a run is firm.
use Rattle.std.proofs.Common.{◌≡◌, ℕ, suc, ◌+◌, ◌-◌, ◌<◌, false, Option, Some, None, length, inl}
use Rattle.std.proofs.Common.{inr, refl, sym, ◌∙◌, subst, arith}
use Rattle.std.specs.Prelude.{is_some, take}
use Rattle.std.proofs.Math.Path.{fun_ext}
use Rattle.std.proofs.lemmas.Bool.{cases_Bool, le-ltb, true≢false, or_left, or_right}
use Rattle.std.proofs.lemmas.Option.{none-some}
use Rattle.std.proofs.lemmas.List.{take_all}
use Rattle.pm_base.specs.Counts.{one_if}
use Rattle.pm_base.specs.Fans.{IsOrientedManifold}
use Rattle.pm_base.specs.Sides.{next, twin_of}
use Rattle.pm_base.specs.declared.ids.Side.{Side}
use Rattle.pm_base.specs.declared.log.Gone.{Gone}
use Rattle.pm_forest.specs.declared.parts.NewFace.{NewFace}
use Rattle.pm_forest.specs.Forest.{Hierarchy, record_at, record_count}
use Rattle.pm_forest.specs.Faces.{first_face}
use Rattle.pm_forest.specs.Fronts.{below, no_records}
use Rattle.pm_forest.proofs.Ancestors.{below-front}
use Rattle.pm_beyond.specs.Walks.{number_of}
use Rattle.pm_runs.specs.Runs.{surface_after}
use Rattle.pm_runs.specs.Surfaces.{net_of_surface}
use Rattle.pm_runs.specs.Pairs.{IsPair}
use Rattle.pm_runs.specs.Merged.{StandsAcross}
use Rattle.pm_runs.proofs.Collapsed.{alike-sym}
use Rattle.pm_runs.proofs.Manifolds.{manifold-same, run-manifold}
use Rattle.pm_runs.proofs.Sides.{twin-across}
use Rattle.pm_number.specs.Stages.{Run, run_of, steps, entry_at, net_of_run_after, IsGone}
use Rattle.pm_number.specs.Stages.{IsMerging, side_by, side_moved}
use Rattle.pm_number.specs.Numbering.{node_number, leaf_number, face_number, hierarchy_of}
use Rattle.pm_number.specs.Numbering.{hierarchy_of_run}
use Rattle.pm_number.specs.Shown.{SameGone, IsNumbered}
use Rattle.pm_number.proofs.LawsProved.{are_valid}
use Rattle.pm_number.proofs.Merging.{alike-at, merging}
use Rattle.pm_number.proofs.Stages.{stage}
use Rattle.pm_number.proofs.Undoing.{undoes}
use Rattle.pm_number.proofs.Undone.{across-is_beyond}
use Rattle.pm_number.proofs.Whole.{numbered}
use Rattle.pm_firm.specs.Firm.{shown_net, IsSurfaceShown, HasNeighbour, FacesAreHeld}
use Rattle.pm_firm.proofs.ShownNets.{beyond-twins}
use Rattle.pm_number.specs.Laws as law
use Rattle.pm_number.proofs.NotAlone.{not_alone}
use Rattle.pm_number.proofs.MovedManifolds.{manifold-moved}

below_zero : below 0 ≡ no_records
below_zero = fun_ext (λ j. le-ltb j 0 (omega arith))

-- what isn't some is none
not_some : (r : Option Side) → is_some r ≡ false → number_of r ≡ None
not_some None e = refl
not_some (Some x) e = absurd (true≢false e)

moved_none : (side : ℕ → ℕ) (r : Option ℕ) → side_moved side r ≡ None → r ≡ None
moved_none side None e = refl
moved_none side (Some x) e = absurd (none-some (side x) (sym e))

module _ (r : Run) (run : IsMerging r) (h : Hierarchy) (node leaf face : ℕ
    → ℕ) (num : IsNumbered r h node leaf face) where
  -- The face of record k that the log tells of is held.
  gone_held : (i p q f : ℕ) → i < steps r → IsPair (entry_at r i).t (entry_at r i).u p q
      → (g : Option Gone) → IsGone (net_of_run_after r i) p q g → (n : NewFace)
      → SameGone face f g (Some n) → HasNeighbour n
  gone_held i p q f l pair None gone n same = absurd same
  gone_held i p q f l pair (Some g) (e, w, face_is, first, second) n (is, one, two) =
      elim (cases_Bool (is_some n.first)) [
        | inl a ↦ or_left (is_some n.first) (is_some n.second) a
        | inr a ↦
            elim (cases_Bool (is_some n.second)) [
              | inl b ↦ or_right (is_some n.first) (is_some n.second) b
              | inr b ↦
                  let first_none =
                  moved_none (side_by face) (number_of g.first)
                  (sym one ∙ not_some n.first a) in
                  let second_none =
                  moved_none (side_by face) (number_of g.second)
                  (sym two ∙ not_some n.second b) in
                  absurd (not_alone (net_of_run_after r i) (entry_at r i).t (entry_at r i).u
                  (run.linkable i l) e p q pair w
                  (subst (StandsAcross (net_of_run_after r i) (next e)) first_none first)
                  (subst (StandsAcross (net_of_run_after r i) (next (next e))) second_none second))
            ]
      ]

  pub faces_held : (k : ℕ) → k < record_count h → FacesAreHeld h k
  faces_held k l =
      let c = num.count in
      let i = steps r - suc k in
      let is : i + suc k ≡ steps r = omega arith in
      let i_lt : i < steps r = omega arith in
      let told = run.logged i i_lt in
      record {
        left = λ n there. gone_held i (entry_at r i).t (entry_at r i).u (first_face h k) i_lt
            (inl (refl, refl)) (entry_at r i).left told.left n
            (subst (SameGone face (first_face h k) (entry_at r i).left) there (num.left i k is));
        right = λ n there. gone_held i (entry_at r i).u (entry_at r i).t
            (first_face h k + one_if (is_some (record_at h k).left)) i_lt (inr (refl, refl))
            (entry_at r i).right told.right n
            (subst (SameGone face (first_face h k + one_if (is_some (record_at h k).left))
            (entry_at r i).right) there (num.right i k is));
      }

pub are_firm : law.HierarchiesOfRunsAreFirm
unfolding hierarchy_of_run
are_firm m start log run shape =
    let r = run_of m log in
    let h = hierarchy_of r in
    let told = merging m log start run in
    let num = numbered r told in
    let un = undoes r h (node_number r) (leaf_number r) (face_number r) told num in
    let last : IsOrientedManifold (net_of_run_after r (length log)) =
    manifold-same (net_of_surface (surface_after m (take (length log) log)))
    (net_of_run_after r (length log))
    (alike-sym (net_of_run_after r (length log))
    (net_of_surface (surface_after m (take (length log) log)))
    (alike-at m log start run (length log) (omega arith)))
    (subst (λ l. IsOrientedManifold (net_of_surface (surface_after m l)))
    (sym (take_all (length log) log (omega arith))) (run-manifold m start log run)) in
    let shown : IsOrientedManifold (shown_net h (below 0)) =
    manifold-moved (net_of_run_after r (length log)) (shown_net h (below 0))
    (λ e. side_by (face_number r) e) (node_number r)
    (stage r h (node_number r) (leaf_number r) (face_number r) told num (length log) 0
    (omega arith)) last in
    let agrees = across-is_beyond h un 0 (omega arith) in
    let base : IsSurfaceShown h (below 0) = record {
      manifold = shown;
      twins = beyond-twins h un.shape (below 0) (below-front h un.shape.forest 0) un.no_side_twice
          (λ e l s.
          agrees.beyond e (twin_of (shown_net h (below 0)) e) l s
          (twin-across (shown_net h (below 0)) e (twin_of (shown_net h (below 0)) e) refl));
    } in
    record {
      valid = are_valid m start log run shape;
      base = subst (IsSurfaceShown h) below_zero base;
      held = faces_held r told h (node_number r) (leaf_number r) (face_number r) num;
    }
