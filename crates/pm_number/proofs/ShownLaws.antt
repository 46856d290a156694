-- Stage by stage the surface of a run is what a front of its hierarchy shows.
use Rattle.std.proofs.lemmas.Grind.{common_steps}
use Rattle.std.proofs.Common.{zero, suc, ◌≡◌, ◌≢◌, ℕ, ◌+◌, ◌-◌, ◌<◌, ◌≤◌, eqb, ltb, true, List, []}
use Rattle.std.proofs.Common.{length, get_or, take, drop, inl, inr, sym, ap, ◌∙◌, subst}
use Rattle.std.proofs.Common.{arith}
use Rattle.std.proofs.lemmas.Bool.{cases_eq, both_ways, eqb-false, ne_eqb, or_from, or_parts}
use Rattle.std.proofs.lemmas.Bool.{lt-ltb, le-ltb, cond-true, cond-false}
use Rattle.std.proofs.lemmas.List.{get_or-take, get_or_default, get_or-map, length-take-le}
use Rattle.std.proofs.lemmas.List.{take-append-drop}
use Rattle.pm_base.specs.Place.{place_of}
use Rattle.pm_base.specs.Meshes.{Mesh}
use Rattle.pm_base.specs.declared.log.Collapse.{Collapse}
use Rattle.pm_forest.specs.Fronts.{below}
use Rattle.pm_runs.specs.Surfaces.{Surface, next_vertex, is_live, place_at, net_of_surface}
use Rattle.pm_runs.specs.Surfaces.{collapsed}
use Rattle.pm_runs.specs.Runs.{IsStartOfRun, surface_after, IsRun}
use Rattle.pm_runs.proofs.RunsProved.{spared_vertices_are_live}
use Rattle.pm_runs.proofs.Collapsed.{alike-sym}
use Rattle.pm_runs.proofs.Alike.{same_side}
use Rattle.pm_runs.proofs.Live.{new_at, old_at, old_live}
use Rattle.pm_runs.proofs.Living.{first_dead, second_dead}
use Rattle.pm_runs.proofs.Logs.{run-front, run-sound, surface_after-nil, next-run}
use Rattle.pm_number.specs.Stages.{Run, run_of, no_collapse, steps, entry_at, net_of_run_after}
use Rattle.pm_number.specs.Stages.{side_by, IsMerging}
use Rattle.pm_number.specs.Numbering.{node_number, leaf_number, face_number, place_number}
use Rattle.pm_number.specs.Numbering.{hierarchy_of, hierarchy_of_run, IsThereAfter}
use Rattle.pm_firm.specs.Firm.{shown_net}
use Rattle.pm_number.specs.Laws.{IsShown}
use Rattle.pm_number.proofs.Merging.{merging, step-at, more, alike-at}
use Rattle.pm_number.proofs.Renamed.{stands-moved, stood-before}
use Rattle.pm_number.proofs.Stages.{stage}
use Rattle.pm_number.proofs.Whole.{numbered}
use Rattle.pm_number.proofs.NodeNumbers.{node-once}
use Rattle.pm_number.proofs.RunCounts.{face-count}
use Rattle.pm_number.proofs.LiveNodes.{live-active, active-live}
use Rattle.pm_number.proofs.NodeParts.{node-place}

module _ (m : Mesh) (start : IsStartOfRun m) (log : List Collapse) (run : IsRun m log) where
  abbrev r : Run
  r = run_of m log

  abbrev surface : ℕ → Surface
  surface i = surface_after m (take i log)

  told : IsMerging (run_of m log)
  told = merging m log start run

  front-run : (i : ℕ) → IsRun m (take i log)
  front-run i =
      run-front m (take i log) (drop i log) (subst (IsRun m) (sym (take-append-drop i log)) run)

  entry-taken : (i j : ℕ) → j < i → get_or (take i log) j no_collapse ≡ entry_at (run_of m log) j
  unfolding entry_at
  entry-taken i j l = get_or-take i log j no_collapse l

  -- Live vertices are those that no collapse before has taken

  live-there : (i v : ℕ) → i ≤ length log → is_live (surface_after m (take i log)) v ≡ true
      → IsThereAfter (run_of m log) i v
  live-there i v l live =
      let p = ((spared_vertices_are_live m start (take i log) (front-run i)).1 v).0 live in
      let len = length-take-le i log l in (
        (let low = p.0 in omega arith),
        λ j j_lt.
            let apart = p.1 j no_collapse (omega arith) in
            let is = entry-taken i j j_lt in
            or_from _ _ (ne_eqb (entry_at r j).t v
            (λ z. apart.0 (sym z ∙ ap (λ (c : Collapse). c.t) (sym is))))
            (ne_eqb (entry_at r j).u v
            (λ z. apart.1 (sym z ∙ ap (λ (c : Collapse). c.u) (sym is)))),
      )

  there-live : (i v : ℕ) → i ≤ length log → IsThereAfter (run_of m log) i v
      → is_live (surface_after m (take i log)) v ≡ true
  there-live i v l (low, free) =
      let len = length-take-le i log l in
      ((spared_vertices_are_live m start (take i log) (front-run i)).1 v).1 (
        (omega arith),
        λ j d j_lt.
            let below_i : j < i = omega arith in
            let is : get_or (take i log) j d ≡ entry_at r j =
            get_or_default (take i log) j d no_collapse j_lt ∙ entry-taken i j below_i in
            let p = or_parts (eqb (entry_at r j).t v) (eqb (entry_at r j).u v) (free j below_i) in (
              λ z. eqb-false _ _ p.0 (sym (z ∙ ap (λ (c : Collapse). c.t) is)),
              λ z. eqb-false _ _ p.1 (sym (z ∙ ap (λ (c : Collapse). c.u) is)),
            ),
      )

  -- and each is where its number says

  place-live : (i v : ℕ) → i ≤ length log → is_live (surface_after m (take i log)) v ≡ true
      → place_number (run_of m log) v ≡ place_at (surface_after m (take i log)) v
  unfolding place_number
  place-live zero v l live =
      grind (arith, common_steps, cond-true, get_or-map, live-there, lt-ltb, surface_after-nil)
  place-live (suc i) v l live =
      let c = entry_at r i in
      let s = surface i in
      let next_i : i + 1 ≡ suc i = omega arith in
      let step = step-at m log start run i l in
      let is : surface (suc i) ≡ collapsed s c.t c.u c.place =
      ap surface (sym next_i) ∙ more m log start run i l in
      let live' = rw is at live in
      let new : next_vertex s ≡ length m.points + i =
      (let n = next-run m (take i log) in let len = length-take-le i log (omega arith) in
      omega arith) in
      elim (cases_eq v (next_vertex s)) [
        | inl here ↦
            let number : v - length m.points ≡ i = omega arith in
            let past : length m.points ≤ v = omega arith in
            cond-false (ltb v (length m.points)) (get_or m.points v (place_of []))
            (entry_at r (v - length m.points)).place (le-ltb v (length m.points) past)
            ∙ ap (λ j. (entry_at r j).place) number
            ∙ sym (ap (λ (x : Surface). place_at x v) is
            ∙ ap (place_at (collapsed s c.t c.u c.place)) here ∙ new_at s c.t c.u c.place)
        | inr other ↦
            let sound = run-sound m start (take i log) (front-run i) in
            let not_t : v ≢ c.t =
            λ z. both_ways _ (first_dead s sound c step)
            (subst (λ w. is_live (collapsed s c.t c.u c.place) w ≡ true) z live') in
            let not_u : v ≢ c.u =
            λ z. both_ways _ (second_dead s sound c step)
            (subst (λ w. is_live (collapsed s c.t c.u c.place) w ≡ true) z live') in
            let was = sym (old_live s c.t c.u c.place v other not_t not_u) ∙ live' in
            place-live i v (omega arith) was
            ∙ sym (ap (λ (x : Surface). place_at x v) is
            ∙ old_at s c.t c.u c.place v other not_t not_u)
      ]

  pub shown_at : (i k : ℕ) → i + k ≡ length log → IsShown m log i k
  unfolding hierarchy_of_run
  shown_at i k is =
      let h = hierarchy_of r in
      let i_le : i ≤ length log = omega arith in
      let num = numbered r told in
      let names = stage r h (node_number r) (leaf_number r) (face_number r) told num i k is in
      let to_surface = alike-at m log start run i i_le in
      let back = alike-sym (net_of_run_after r i) (net_of_surface (surface i)) to_surface in
      let faces = face-count r told in
      let given : (v : ℕ) → is_live (surface i) v ≡ true → v < r.vertices + steps r =
      λ v live. (let p = (live-there i v i_le live).0 in omega arith) in
      record {
        sides = λ e l. (
          λ st. stands-moved (net_of_run_after r i) (shown_net h (below k))
              (λ e. side_by (face_number r) e) (node_number r) names e
              (same_side (net_of_surface (surface i)) (net_of_run_after r i) back e st).0,
          λ st. (same_side (net_of_run_after r i) (net_of_surface (surface i)) to_surface e
              (stood-before (net_of_run_after r i) (shown_net h (below k))
              (λ e. side_by (face_number r) e) (node_number r) names e l st)).0,
        );
        all_sides = λ e l. names.back e (omega arith);
        corners = λ e st.
            let old = same_side (net_of_surface (surface i)) (net_of_run_after r i) back e st in
            names.from e old.0.is_side ∙ ap (node_number r) old.1;
        vertices = λ v live. live-active r told i k is v (live-there i v i_le live);
        all_vertices = λ n active.
            let (v, there, v_is) = active-live r told i k is n active in
            (v, there-live i v i_le there, v_is);
        once = λ v w live live' same. node-once r told v w (given v live) (given w live') same;
        places = λ v live. node-place r told v (given v live) ∙ place-live i v i_le live;
      }
