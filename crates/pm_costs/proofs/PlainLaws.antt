-- The table of quadrics goes by a plain policy: at the start, and over one collapse more.
use Rattle.std.proofs.Common.{◌≡◌, ◌≢◌, ℕ, suc, ◌+◌, ◌*◌, ◌<◌, ◌≤◌, Bool, Some, true, List, [], ◌∷◌}
use Rattle.std.proofs.lemmas.Grind.{common_steps}
use Rattle.std.proofs.Common.{◌++◌, length, length-append, get_or, inl, inr, refl, sym, ap, ◌∙◌}
use Rattle.std.proofs.Common.{subst, arith}
use Rattle.std.specs.Prelude.{Result, Ok, Err, IfOk}
use Rattle.std.proofs.lemmas.Bool.{cases_eq}
use Rattle.std.proofs.lemmas.List.{length-map, length-set}
use Rattle.pm_base.specs.declared.log.Collapse.{Collapse}
use Rattle.pm_base.specs.Meshes.{Mesh}
use Rattle.pm_quadric.specs.declared.quadric.TheConstants.{MOST_PLANES}
use Rattle.pm_quadric.specs.Planes.{Plane}
use Rattle.pm_quadric.specs.Sums.{sums_of, StandsFor}
use Rattle.pm_quadric.proofs.QuadricLaws.{count_is, sums_joined}
use Rattle.pm_runs.specs.Surfaces.{Surface, next_vertex, is_live, surface_of, collapsed}
use Rattle.pm_runs.specs.Planes.{planes_at}
use Rattle.pm_runs.specs.Counts.{live_count_of}
use Rattle.pm_runs.specs.Runs.{IsStartOfRun, surface_after, IsStep, IsRun}
use Rattle.pm_runs.proofs.Live.{live_below, next-after}
use Rattle.pm_runs.proofs.Living.{joined_live, live_fewer, first_live_count}
use Rattle.pm_runs.proofs.Logs.{surface_after-nil, surface_after-more, run-parts, run-sound}
use Rattle.pm_runs.proofs.Logs.{step-new}
use Rattle.pm_policies.specs.Policies.{Policy, taken_after, brought_after, planes_by}
use Rattle.pm_policies.specs.Policies.{plain_keeping}
use Rattle.pm_policies.specs.Bounds.{BringsAtMost, most_brought, TakesAtMost}
use Rattle.pm_policies.specs.Laws.{AreFew}
use Rattle.pm_policies.proofs.PlanesTaken.{planes_are_taken}
use Rattle.pm_policies.proofs.PlaneCounts.{planes_are_few}
use Rattle.pm_shrink.specs.Shrinking.{Shrinking}
use Rattle.pm_shrink.specs.Following.{IsAfter}
use Rattle.pm_costs.specs.Slots.{Quadrics, quadric_at, HaveOwnSlots}
use Rattle.pm_costs.specs.Plain.{GoesByPlain}
use Rattle.pm_costs.proofs.MergedQuadrics.{AreMerged, was_live, quadrics-kept, slots-own}

nil_of : (ps : List Plane) → length ps ≤ 0 → ps ≡ []
nil_of [] few = refl
nil_of (q ∷ ps) few = absurd (omega arith)

-- A plain policy takes no plane, and brings one for each face.
module _ (p : Policy) (plain : p ≡ plain_keeping p.kept) where
  takes_none : (s : Surface) (v : ℕ) → p.taken s v ≡ []
  takes_none s v = ap (λ (r : Policy). r.taken s v) plain

  brings_all : (m : Mesh) (v : ℕ) → p.brought m v ≡ planes_at m v
  brings_all m v = ap (λ (r : Policy). r.brought m v) plain

  few_planes :
      (m : Mesh) → IsStartOfRun m → (log : List Collapse) → IsRun m log →
      AreFew p m log (most_brought m 1 0) 0
  few_planes m start log run =
      let brings : BringsAtMost p m 1 0 = λ v. omega (arith, ap length (brings_all m v)) in
      let takes : TakesAtMost p m 0 = λ log run v.
      omega (arith, ap length (takes_none (surface_after m log) v)) in
      ((planes_are_few p m start).0 log run).1 1 0 0 brings takes

  first_planes : (m : Mesh) (v : ℕ) → planes_by p m [] v ≡ planes_at m v
  first_planes m v =
      grind (arith, common_steps, brings_all m v, planes_are_taken p m, takes_none (surface_of m) v)

  module _
      (m : Mesh) (start : IsStartOfRun m) (log : List Collapse) (run : IsRun m log)
      (c : Collapse) where
    none_taken : (v : ℕ) → taken_after p m log v ≡ []
    none_taken v = nil_of (taken_after p m log v) ((few_planes m start log run).each v)

    new_planes :
        planes_by p m (log ++ c ∷ []) c.s ≡ planes_by p m log c.t ++ planes_by p m log c.u
    new_planes =
        let more : List Collapse = log ++ c ∷ [] in
        let on = (planes_are_taken p m).1 log c in
        let t : List Plane = brought_after p m log c.t in
        let none = on.taken ∙ takes_none (surface_after m more) c.s in
        ap (λ (ps : List Plane). ps ++ brought_after p m more c.s) none ∙ on.brought
        ∙ ap (λ (ps : List Plane). (ps ++ t) ++ brought_after p m log c.u) (sym (none_taken c.t))
        ∙ ap (λ (ps : List Plane). planes_by p m log c.t ++ (ps ++ brought_after p m log c.u))
        (sym (none_taken c.u))

    other_planes : (v : ℕ) → v ≢ c.s → planes_by p m (log ++ c ∷ []) v ≡ planes_by p m log v
    other_planes v off = grind (arith, common_steps, planes_are_taken p m)

-- Before the first collapse.
pub goes_first :
    (kept : ℕ → Bool) (m : Mesh) (t : Quadrics) → length t.slots ≡ 2 * length m.points →
    ((v : ℕ) → v < length m.points → get_or t.slots v 0 ≡ v) →
    ((v : ℕ) → v < length m.points → quadric_at t v ≡ sums_of (planes_at m v)) →
    GoesByPlain t (plain_keeping kept) m []
goes_first kept m t len slots quadrics =
    let p : Policy = plain_keeping kept in
    let nil = surface_after-nil m in
    let points = length-map m.points Some in
    let low : (v : ℕ) → is_live (surface_after m []) v ≡ true → v < length m.points = λ v live. (
    let l = live_below (surface_of m) v (subst (λ (z : Surface). is_live z v ≡ true) nil live) in
    omega arith) in
    record {
      policy = refl;
      each = λ v live. quadrics v (low v live) ∙ ap sums_of (sym (first_planes p refl m v));
      own = λ v w live_v live_w same.
          sym (slots v (low v live_v)) ∙ same ∙ slots w (low w live_w);
      room = omega (arith, ap next_vertex nil, ap live_count_of nil, first_live_count m);
    }

pub made_first :
    {E : Type 0} (m : Mesh) (made : Result Quadrics E) →
    IfOk made (λ t. length t.slots ≡ 2 * length m.points) →
    IfOk made (λ t. (v : ℕ) → v < length m.points → get_or t.slots v 0 ≡ v) →
    IfOk made (λ t. (v : ℕ) → v < length m.points → quadric_at t v ≡ sums_of (planes_at m v)) →
    IfOk made (λ t. (kept : ℕ → Bool) → GoesByPlain t (plain_keeping kept) m [])
made_first m (Ok t) len slots quadrics = λ kept. goes_first kept m t len slots quadrics
made_first m (Err e) len slots quadrics = tt

-- With the mesh after a run.
module _
    (p : Policy) (m : Mesh) (log : List Collapse) (s : Shrinking) (t : Quadrics)
    (after : IsAfter m log s) (goes : GoesByPlain t p m log) where
  live_here : (v : ℕ) → is_live s.surface v ≡ true → is_live (surface_after m log) v ≡ true
  live_here v = subst (λ (z : Surface). is_live z v ≡ true) after.surface

  module _ (a b : ℕ) (la : is_live s.surface a ≡ true) (lb : is_live s.surface b ≡ true) where
    pub pair_fits : a < b → (quadric_at t a).count + (quadric_at t b).count ≤ MOST_PLANES
    pair_fits order =
        let few = (few_planes p goes.policy m after.start log after.run).pair a b order
        (live_here a la) (live_here b lb) in
        let one = count_is (quadric_at t a) (planes_by p m log a) (goes.each a (live_here a la)) in
        let two = count_is (quadric_at t b) (planes_by p m log b) (goes.each b (live_here b lb)) in
        let both = length-append (planes_by p m log a) (planes_by p m log b) in
        let faces = after.start.formed.faces in
        omega arith

-- Over one collapse.
module _
    (p : Policy) (m : Mesh) (log : List Collapse) (c : Collapse) (s : Shrinking) (t : Quadrics)
    (after : IsAfter m (log ++ c ∷ []) s) (goes : GoesByPlain t p m log) where
  abbrev now : Surface
  now = surface_after m log

  run : IsRun m log
  run = (run-parts m log c after.run).0

  step : IsStep (surface_after m log) c
  step = (run-parts m log c after.run).1

  live : (is_live now c.t ≡ true) × (is_live now c.u ≡ true)
  live = joined_live now (run-sound m after.start log run) c.t c.u step.legal.joined

  apart : c.t ≢ c.u
  apart is = (let order = step.ordered in absurd (omega (arith, is)))

  fewer : suc (live_count_of (collapsed now c.t c.u c.place)) ≡ live_count_of now
  fewer = live_fewer now c.t c.u c.place live.0 live.1 apart

  low : next_vertex now < length t.slots
  low = (let room = goes.room in let less = fewer in omega arith)

  pub merged_in : (c.t < length t.slots) × ((c.u < length t.slots) × (c.s < length t.slots))
  merged_in = grind (arith, common_steps, live, live_below, low, step, step-new)

  pub merged_fits : (quadric_at t c.t).count + (quadric_at t c.u).count ≤ MOST_PLANES
  merged_fits =
      let here : Shrinking = record { surface = now; corners = s.corners } in
      pair_fits p m log here t (record { start = after.start; run = run; surface = refl }) goes
      c.t c.u live.0 live.1 step.ordered

  module _ (r : Quadrics) (w : AreMerged t c.t c.u c.s r) where
    merged : AreMerged t c.t c.u (next_vertex now) r
    merged = subst (λ (k : ℕ). AreMerged t c.t c.u k r) (step-new now c step) w

    later : surface_after m (log ++ c ∷ []) ≡ collapsed now c.t c.u c.place
    later = surface_after-more m log c

    low_t : c.t < next_vertex now
    low_t = live_below now c.t live.0

    low_u : c.u < next_vertex now
    low_u = live_below now c.u live.1

    each :
        (v : ℕ) → is_live (collapsed now c.t c.u c.place) v ≡ true →
        StandsFor (quadric_at r v) (planes_by p m (log ++ c ∷ []) v)
    each v there =
        let more : List Collapse = log ++ c ∷ [] in
        let new = step-new now c step in
        elim (cases_eq v (next_vertex now)) [
          | inl is ↦
              let both = sums_joined (quadric_at t c.t) (quadric_at t c.u) (planes_by p m log c.t)
              (planes_by p m log c.u) (goes.each c.t live.0) (goes.each c.u live.1) in
              let planes = ap (planes_by p m more) (is ∙ sym new)
              ∙ new_planes p goes.policy m after.start log run c in
              ap (quadric_at r) is ∙ merged.sum ∙ both ∙ ap sums_of (sym planes)
          | inr ne ↦
              let before = was_live now c.t c.u c.place live.0 low_t low_u v there ne in
              quadrics-kept now c.t c.u c.place live.0 low_t low_u t r goes.own merged v there ne
              ∙ goes.each v before
              ∙ ap sums_of (sym (other_planes p goes.policy m after.start log run c v
              (λ is. ne (is ∙ new))))
        ]

    pub goes_more : GoesByPlain r p m (log ++ c ∷ [])
    goes_more =
        let own = slots-own now c.t c.u c.place live.0 low_t low_u t r goes.own merged low in
        let room = goes.room in
        let less = fewer in
        let slots = ap length w.slotted ∙ length-set t.slots c.s (get_or t.slots c.t 0) in
        record {
          policy = goes.policy;
          each = λ v there.
              each v (subst (λ (z : Surface). is_live z v ≡ true) later there);
          own = subst (λ (z : Surface). HaveOwnSlots z r.slots) (sym later) own;
          room = omega (
            arith,
            ap next_vertex later,
            ap live_count_of later,
            next-after now c.t c.u c.place,
          );
        }
