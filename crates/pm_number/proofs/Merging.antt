-- The log of a run of a mesh tells a run of merges: stage by stage the surface and the merged sides
-- are alike.
use Rattle.std.proofs.Common.{zero, suc, ◌≡◌, ℕ, ◌+◌, ◌<◌, ◌≤◌, Option, Some, None, List, length}
use Rattle.std.proofs.lemmas.Grind.{common_steps}
use Rattle.std.proofs.Common.{get_or, take, refl, sym, ap, ◌∙◌, subst, arith}
use Rattle.std.specs.Prelude.{option_map}
use Rattle.std.proofs.lemmas.List.{take_more, length-take-le}
use Rattle.pm_base.specs.declared.log.Gone.{Gone}
use Rattle.pm_base.specs.declared.log.Collapse.{Collapse}
use Rattle.pm_base.specs.Meshes.{Mesh}
use Rattle.pm_base.specs.Sides.{next, net_of, twin_of}
use Rattle.pm_base.proofs.NetLaws.{mesh_side}
use Rattle.pm_base.proofs.Sides.{stands_next}
use Rattle.pm_runs.specs.Surfaces.{Surface, next_vertex, net_of_surface, collapsed}
use Rattle.pm_runs.specs.Merged.{merged, Alike, StandsAcross}
use Rattle.pm_runs.specs.Steps.{side_from_to, side_id, gone_at, gone_of}
use Rattle.pm_runs.specs.Runs.{IsStartOfRun, surface_after, IsRun, IsStep}
use Rattle.pm_runs.proofs.Sides.{twin-across}
use Rattle.pm_runs.proofs.Around.{same-linkable, runs-to}
use Rattle.pm_runs.proofs.Alike.{alike-across, alike-merged}
use Rattle.pm_runs.proofs.Collapsed.{alike-trans, alike-sym, collapse-alike, input-alike}
use Rattle.pm_runs.proofs.Legal.{legal-linkable}
use Rattle.pm_runs.proofs.Found.{found-runs, none-side}
use Rattle.pm_runs.proofs.Proper.{manifold-proper}
use Rattle.pm_runs.proofs.Logs.{surface_after-nil, surface_after-more, next-run, step-new, run-step}
use Rattle.pm_beyond.specs.Walks.{number_of}
use Rattle.pm_number.specs.Stages.{Run, run_of, no_collapse, entry_at, net_of_run_after, IsGone}
use Rattle.pm_number.specs.Stages.{IsMerging}

number_of-side : (r : Option ℕ) → number_of (option_map side_id r) ≡ r
number_of-side None = refl
number_of-side (Some e) = refl

module _ (m : Mesh) (log : List Collapse) (start : IsStartOfRun m) (run : IsRun m log) where
  abbrev r : Run
  r = run_of m log

  -- The surface before collapse i.
  abbrev surface : ℕ → Surface
  surface i = surface_after m (take i log)

  pub step-at : (i : ℕ) → i < length log
      → IsStep (surface_after m (take i log)) (entry_at (run_of m log) i)
  unfolding entry_at
  step-at i l = run-step m log run i no_collapse l

  -- each entry names the next vertex
  pub named-at : (i : ℕ) → i < length log → (entry_at (run_of m log) i).s ≡ length m.points + i
  named-at i l = grind (arith, common_steps, length-take-le, next-run, step-at, step-new)

  pub more : (i : ℕ) → i < length log → surface_after m (take (i + 1) log)
      ≡ collapsed (surface_after m (take i log)) (entry_at (run_of m log) i).t
      (entry_at (run_of m log) i).u (entry_at (run_of m log) i).place
  unfolding entry_at
  more i l = ap (surface_after m) (take_more log i no_collapse l)
      ∙ surface_after-more m (take i log) (get_or log i no_collapse)

  pub alike-at : (i : ℕ) → i ≤ length log
      → Alike (net_of_run_after (run_of m log) i) (net_of_surface (surface_after m (take i log)))
  alike-at zero l =
      subst (λ (s : Surface). Alike (net_of m.faces) (net_of_surface s)) (sym (surface_after-nil m))
      (input-alike m)
  alike-at (suc i) l =
      let c = entry_at r i in
      let s = surface i in
      let old = alike-at i (omega arith) in
      let new : c.s ≡ next_vertex s = step-new s c (step-at i l) in
      let both = alike-trans _ _ _
      (alike-merged (net_of_run_after r i) (net_of_surface s) old c.t c.u c.s)
      (subst (λ v. Alike (merged (net_of_surface s) c.t c.u v)
      (net_of_surface (collapsed s c.t c.u c.place))) (sym new)
      (collapse-alike s c.t c.u c.place)) in
      let next_place : i + 1 ≡ suc i = omega arith in
      subst (λ n. Alike (net_of_run_after r (suc i)) (net_of_surface (surface n))) next_place
      (subst (λ (x : Surface). Alike (net_of_run_after r (suc i)) (net_of_surface x))
      (sym (more i l)) both)

  -- what the log says of a face that goes
  gone-at : (i p q : ℕ) → i ≤ length log → (o : Option ℕ)
      → side_from_to (net_of_surface (surface_after m (take i log))) p q ≡ o →
      IsGone (net_of_run_after (run_of m log) i) p q
      (option_map (gone_at (net_of_surface (surface_after m (take i log)))) o)
  gone-at i p q l None none =
      λ (e, w). none-side (net_of_surface (surface i)) p q none
      (e, runs-to (net_of_run_after r i) (net_of_surface (surface i)) e p q (alike-at i l q) w)
  gone-at i p q l (Some e) is =
      let n = net_of_surface (surface i) in
      let back = alike-sym (net_of_run_after r i) n (alike-at i l) in
      let w = found-runs n p q e is in
      let s1 = stands_next n e w.stands in
      let s2 = stands_next n (next e) s1 in
      let across : (g : ℕ) → StandsAcross n g (twin_of n g) =
      λ g. twin-across n g (twin_of n g) refl in (
        e,
        runs-to n (net_of_run_after r i) e p q (back q) w,
        refl,
        subst (StandsAcross (net_of_run_after r i) (next e))
            (sym (number_of-side (twin_of n (next e))))
            (alike-across n (net_of_run_after r i) back (next e) _ s1 (across (next e))),
        subst (StandsAcross (net_of_run_after r i) (next (next e)))
            (sym (number_of-side (twin_of n (next (next e)))))
            (alike-across n (net_of_run_after r i) back (next (next e)) _ s2
            (across (next (next e)))),
      )

  entry-gone : (i p q : ℕ) (g : Option Gone) → i ≤ length log
      → g ≡ gone_of (net_of_surface (surface_after m (take i log))) p q
      → IsGone (net_of_run_after (run_of m log) i) p q g
  entry-gone i p q g l is =
      subst (IsGone (net_of_run_after r i) p q) (sym is)
      (gone-at i p q l (side_from_to (net_of_surface (surface i)) p q) refl)

  pub merging : IsMerging (run_of m log)
  merging = record {
    vertex = λ e l. (mesh_side m start.formed e l).1;
    whole = λ e l. (mesh_side m start.formed e l).0;
    proper = manifold-proper (net_of m.faces) start.manifold;
    named = named-at;
    linkable = λ i l.
        let c = entry_at r i in
        let back = alike-sym (net_of_run_after r i) (net_of_surface (surface i))
        (alike-at i (omega arith)) in
        same-linkable (net_of_surface (surface i)) (net_of_run_after r i) c.t c.u (back c.t)
        (back c.u) (legal-linkable (surface i) c.t c.u c.place (step-at i l).legal);
    logged = λ i l.
        let c = entry_at r i in
        let told = (step-at i l).entry in
        record {
          left = entry-gone i c.t c.u c.left (omega arith) (ap (λ (x : Collapse). x.left) told);
          right = entry-gone i c.u c.t c.right (omega arith) (ap (λ (x : Collapse). x.right) told);
        };
  }
