-- The table of quadrics goes by a fine policy: at the start, and over one collapse more.
use Rattle.std.proofs.Common.{◌≡◌, ◌≢◌, ℕ, suc, ◌+◌, ◌*◌, ◌<◌, ◌≤◌, Bool, Some, true, List, [], ◌∷◌}
use Rattle.std.proofs.lemmas.Grind.{common_steps}
use Rattle.std.proofs.Common.{◌++◌, length, length-append, get_or, inl, inr, refl, sym, ap, ◌∙◌}
use Rattle.std.proofs.Common.{subst, arith}
use Rattle.std.proofs.lemmas.Bool.{cases_eq}
use Rattle.std.proofs.lemmas.List.{length-map, length-set}
use Rattle.pm_base.specs.declared.log.Collapse.{Collapse}
use Rattle.pm_base.specs.Place.{Place}
use Rattle.pm_base.specs.Meshes.{Mesh}
use Rattle.pm_quadric.specs.Planes.{Plane}
use Rattle.pm_quadric.specs.Sums.{Sums, plus_sums, sums_of, StandsFor}
use Rattle.pm_quadric.proofs.QuadricLaws.{count_is, sums_joined}
use Rattle.pm_runs.specs.Surfaces.{Surface, next_vertex, is_live, surface_of, collapsed, place_at}
use Rattle.pm_runs.specs.Planes.{point_at}
use Rattle.pm_runs.specs.Counts.{live_count_of}
use Rattle.pm_runs.specs.Runs.{IsStartOfRun, surface_after, IsStep, IsRun}
use Rattle.pm_runs.proofs.Live.{live_below, next-after, new_live}
use Rattle.pm_runs.proofs.Living.{joined_live, live_fewer, first_live_count}
use Rattle.pm_runs.proofs.Logs.{surface_after-nil, surface_after-more, run-parts, run-sound}
use Rattle.pm_runs.proofs.Logs.{step-new}
use Rattle.pm_fine.specs.declared.fine_quadric.TheConstants.{MOST_FINE_PLANES}
use Rattle.pm_fine.specs.Normals.{halved, doubled}
use Rattle.pm_fine.specs.FinePlanes.{point_planes}
use Rattle.pm_policies.specs.Policies.{Policy, taken_after, brought_after, planes_by}
use Rattle.pm_policies.specs.Policies.{pair_planes_by, place_by}
use Rattle.pm_fine.specs.Fourth.{best_fine_place_of}
use Rattle.pm_policies.specs.Bounds.{BringsAtMost, most_brought, TakesByFaces}
use Rattle.pm_policies.specs.Laws.{AreFew}
use Rattle.pm_policies.proofs.PlanesTaken.{planes_are_taken}
use Rattle.pm_policies.proofs.PlaneCounts.{planes_are_few}
use Rattle.pm_shrink.specs.Shrinking.{Shrinking}
use Rattle.pm_shrink.specs.Following.{IsAfter}
use Rattle.pm_slots.specs.Slots.{Slotted, HaveOwnSlots, IsPut}
use Rattle.pm_slots.proofs.OwnSlots.{was_live, items-kept, slots-own}
use Rattle.pm_fine_costs.specs.declared.pair.BothQuadrics.{BothQuadrics}
use Rattle.pm_fine_costs.specs.FinePolicy.{planes_round, brought_at, fine_keeping}
use Rattle.pm_fine_costs.specs.FineCosts.{no_quadrics, quadrics_at, GoesByFine}
use Rattle.pm_fine_costs.proofs.CornerCounts.{round_few, input_few}

module _ (p : Policy) (fine : p ≡ fine_keeping p.kept) where
  takes_round : (s : Surface) (v : ℕ) → p.taken s v ≡ planes_round doubled s v
  takes_round s v = ap (λ (r : Policy). r.taken s v) fine

  brings_round : (m : Mesh) (v : ℕ) → p.brought m v ≡ brought_at m v
  brings_round m v = ap (λ (r : Policy). r.brought m v) fine

  few_planes :
      (m : Mesh) → IsStartOfRun m → (log : List Collapse) → IsRun m log →
      AreFew p m log (most_brought m 3 3) (3 * length m.faces)
  few_planes m start log run =
      let brings : BringsAtMost p m 3 3 = λ v.
      let points = point_planes (point_at m v) in
      omega (
        arith,
        ap length (brings_round m v),
        input_few halved m v,
        length-append (planes_round halved (surface_of m) v) points,
      ) in
      let takes : TakesByFaces p 3 = λ s v.
      omega (arith, ap length (takes_round s v), round_few s v doubled) in
      let few = planes_are_few p m start in
      (few.0 log run).1 3 3 (3 * length m.faces) brings (few.1 3 takes)

-- Before the first collapse.
pub goes_first :
    (kept : ℕ → Bool) (m : Mesh) (t : Slotted BothQuadrics) →
    length t.slots ≡ 2 * length m.points →
    ((v : ℕ) → v < length m.points → get_or t.slots v 0 ≡ v) →
    ((v : ℕ) → v < length m.points →
    StandsFor (quadrics_at t v).brought (brought_at m v)) →
    ((v : ℕ) → v < length m.points →
    StandsFor (quadrics_at t v).all (planes_round doubled (surface_of m) v
    ++ brought_at m v)) →
    GoesByFine t (fine_keeping kept) m []
goes_first kept m t len slots brought all =
    let p : Policy = fine_keeping kept in
    let nil = surface_after-nil m in
    let points = length-map m.points Some in
    let low : (v : ℕ) → is_live (surface_after m []) v ≡ true → v < length m.points = λ v live. (
    let l = live_below (surface_of m) v (subst (λ (z : Surface). is_live z v ≡ true) nil live) in
    omega arith) in
    record {
      policy = refl;
      brought = λ v live. brought v (low v live) ∙ ap sums_of
          (sym ((planes_are_taken p m).0 v).brought);
      all = λ v live. all v (low v live)
          ∙ ap (λ (k : List Plane). sums_of (k ++ brought_at m v))
          (sym ((planes_are_taken p m).0 v).taken)
          ∙ ap (λ (k : List Plane). sums_of (taken_after p m [] v ++ k))
          (sym ((planes_are_taken p m).0 v).brought);
      own = λ v w live_v live_w same.
          sym (slots v (low v live_v)) ∙ same ∙ slots w (low w live_w);
      room = omega (arith, ap next_vertex nil, ap live_count_of nil, first_live_count m);
    }

-- With the mesh after a run.
module _
    (p : Policy) (m : Mesh) (log : List Collapse) (s : Shrinking) (t : Slotted BothQuadrics)
    (after : IsAfter m log s) (goes : GoesByFine t p m log) where
  live_here : (v : ℕ) → is_live s.surface v ≡ true → is_live (surface_after m log) v ≡ true
  live_here v = subst (λ (z : Surface). is_live z v ≡ true) after.surface

  few : AreFew p m log (most_brought m 3 3) (3 * length m.faces)
  few = few_planes p goes.policy m after.start log after.run

  pub has_slot : (v : ℕ) → is_live s.surface v ≡ true → v < length t.slots
  has_slot v live =
      let l = live_below (surface_after m log) v (live_here v live) in
      let room = goes.room in omega arith

  module _ (v : ℕ) (live : is_live s.surface v ≡ true) where
    brought_count : (quadrics_at t v).brought.count ≡ length (brought_after p m log v)
    brought_count =
        count_is (quadrics_at t v).brought (brought_after p m log v)
        (goes.brought v (live_here v live))

    all_count : (quadrics_at t v).all.count ≡ length (planes_by p m log v)
    all_count =
        count_is (quadrics_at t v).all (planes_by p m log v) (goes.all v (live_here v live))

    brought_fits : (quadrics_at t v).brought.count ≤ (quadrics_at t v).all.count
    brought_fits = grind (arith, common_steps, all_count, brought_count, length-append)

  module _ (a b : ℕ) (la : is_live s.surface a ≡ true) (lb : is_live s.surface b ≡ true) where
    pub pair_fits :
        a < b → (quadrics_at t a).all.count + (quadrics_at t b).all.count ≤ MOST_FINE_PLANES
    pair_fits order =
        let most = few.pair a b order (live_here a la) (live_here b lb) in
        let both = length-append (planes_by p m log a) (planes_by p m log b) in
        let one = all_count a la in
        let two = all_count b lb in
        let faces = after.start.formed.faces in
        let points = after.start.formed.points in
        omega arith

    pub stands_pair :
        (q r : BothQuadrics) (z : Sums) → q ≡ quadrics_at t a → r ≡ quadrics_at t b →
        z ≡ plus_sums q.all r.all → StandsFor z (pair_planes_by p m log a b)
    stands_pair q r z first second both =
        both ∙ sums_joined q.all r.all (planes_by p m log a) (planes_by p m log b)
        (ap (λ (k : BothQuadrics). k.all) first ∙ goes.all a (live_here a la))
        (ap (λ (k : BothQuadrics). k.all) second ∙ goes.all b (live_here b lb))

    -- The place by the policy is the best of four.
    pub best_is :
        (t u x : Place) → t ≡ place_at s.surface a → u ≡ place_at s.surface b →
        x ≡ best_fine_place_of (pair_planes_by p m log a b) t u → x ≡ place_by p m log a b
    best_is t u x at_a at_b is = grind (arith, common_steps)

-- Over one collapse.
module _
    (p : Policy) (m : Mesh) (log : List Collapse) (c : Collapse) (s : Shrinking)
    (t : Slotted BothQuadrics) (after : IsAfter m (log ++ c ∷ []) s)
    (goes : GoesByFine t p m log) where
  abbrev now : Surface
  now = surface_after m log

  abbrev here : Shrinking
  here = record { surface = now; corners = s.corners }

  run : IsRun m log
  run = (run-parts m log c after.run).0

  step : IsStep (surface_after m log) c
  step = (run-parts m log c after.run).1

  live : (is_live now c.t ≡ true) × (is_live now c.u ≡ true)
  live = joined_live now (run-sound m after.start log run) c.t c.u step.legal.joined

  apart : c.t ≢ c.u
  apart is = (let order = step.ordered in absurd (omega (arith, is)))

  fewer : suc (live_count_of (collapsed now c.t c.u c.place)) ≡ live_count_of now
  fewer = live_fewer now c.t c.u c.place live.0 live.1 apart

  low : next_vertex now < length t.slots
  low = (let room = goes.room in let less = fewer in omega arith)

  pub merged_in : (c.t < length t.slots) × ((c.u < length t.slots) × (c.s < length t.slots))
  merged_in = grind (arith, common_steps, live, live_below, low, step, step-new)

  pub merged_fits :
      (quadrics_at t c.t).brought.count + (quadrics_at t c.u).brought.count ≤ MOST_FINE_PLANES
  merged_fits =
      let before : IsAfter m log here =
      record { start = after.start; run = run; surface = refl } in
      omega (
        arith,
        pair_fits p m log here t before goes c.t c.u live.0 live.1 step.ordered,
        brought_fits p m log here t before goes c.t live.0,
        brought_fits p m log here t before goes c.u live.1,
      )

  later : surface_after m (log ++ c ∷ []) ≡ collapsed now c.t c.u c.place
  later = surface_after-more m log c

  pub made_live : is_live s.surface c.s ≡ true
  made_live = grind (arith, common_steps, later, new_live, step, step-new)

  abbrev more : List Collapse
  more = log ++ c ∷ []

  -- The new vertex.
  module _ (brings takes : Sums)
      (brought : brings ≡ plus_sums (quadrics_at t c.t).brought (quadrics_at t c.u).brought)
      (taken : StandsFor takes (planes_round doubled s.surface c.s)) where
    made_brought : StandsFor brings (brought_after p m more c.s)
    made_brought =
        brought
        ∙ sums_joined (quadrics_at t c.t).brought (quadrics_at t c.u).brought
        (brought_after p m log c.t) (brought_after p m log c.u) (goes.brought c.t live.0)
        (goes.brought c.u live.1)
        ∙ ap sums_of (sym ((planes_are_taken p m).1 log c).brought)

    made_taken : StandsFor takes (taken_after p m more c.s)
    made_taken =
        taken
        ∙ ap (λ (z : Surface). sums_of (planes_round doubled z c.s)) after.surface
        ∙ ap sums_of (sym (takes_round p goes.policy (surface_after m more) c.s))
        ∙ ap sums_of (sym ((planes_are_taken p m).1 log c).taken)

    pub made_fits : takes.count + brings.count ≤ MOST_FINE_PLANES
    made_fits =
        let few = few_planes p goes.policy m after.start more after.run in
        omega (
          arith,
          few.vertex c.s (subst (λ (z : Surface). is_live z c.s ≡ true) after.surface made_live),
          length-append (taken_after p m more c.s) (brought_after p m more c.s),
          count_is takes (taken_after p m more c.s) made_taken,
          count_is brings (brought_after p m more c.s) made_brought,
          after.start.formed.faces,
          after.start.formed.points,
        )

  module _ (r : Slotted BothQuadrics) (q : BothQuadrics) (takes : Sums)
      (w : IsPut t c.t c.s q r)
      (brought : q.brought ≡ plus_sums (quadrics_at t c.t).brought (quadrics_at t c.u).brought)
      (taken : StandsFor takes (planes_round doubled s.surface c.s))
      (all : q.all ≡ plus_sums takes q.brought) where
    merged : IsPut t c.t (next_vertex now) q r
    merged = subst (λ (k : ℕ). IsPut t c.t k q r) (step-new now c step) w

    low_t : c.t < next_vertex now
    low_t = live_below now c.t live.0

    low_u : c.u < next_vertex now
    low_u = live_below now c.u live.1

    made_all : StandsFor q.all (planes_by p m more c.s)
    made_all =
        all ∙ sums_joined takes q.brought (taken_after p m more c.s) (brought_after p m more c.s)
        (made_taken q.brought takes brought taken) (made_brought q.brought takes brought taken)

    module _ (v : ℕ) (there : is_live (collapsed now c.t c.u c.place) v ≡ true) where
      others : v ≢ c.s → (is_live now v ≡ true) × (quadrics_at r v ≡ quadrics_at t v)
      others off =
          let ne : v ≢ next_vertex now = λ is. off (is ∙ sym (step-new now c step)) in (
            was_live now c.t c.u c.place live.0 low_t low_u v there ne,
            items-kept now c.t c.u c.place live.0 low_t low_u t r q goes.own merged v no_quadrics
                there ne,
          )

      each_brought : StandsFor (quadrics_at r v).brought (brought_after p m more v)
      each_brought =
          elim (cases_eq v c.s) [
            | inl is ↦
                ap (λ (k : ℕ). (quadrics_at r k).brought) is
                ∙ ap (λ (k : BothQuadrics). k.brought) (w.made no_quadrics)
                ∙ made_brought q.brought takes brought taken
                ∙ ap (λ (k : ℕ). sums_of (brought_after p m more k)) (sym is)
            | inr off ↦
                let o = others off in
                ap (λ (k : BothQuadrics). k.brought) o.1 ∙ goes.brought v o.0
                ∙ ap sums_of (sym (((planes_are_taken p m).1 log c).others v off).1)
          ]

      each_all : StandsFor (quadrics_at r v).all (planes_by p m more v)
      each_all =
          elim (cases_eq v c.s) [
            | inl is ↦
                ap (λ (k : ℕ). (quadrics_at r k).all) is
                ∙ ap (λ (k : BothQuadrics). k.all) (w.made no_quadrics) ∙ made_all
                ∙ ap (λ (k : ℕ). sums_of (planes_by p m more k)) (sym is)
            | inr off ↦
                let o = others off in
                let kept = ((planes_are_taken p m).1 log c).others v off in
                ap (λ (k : BothQuadrics). k.all) o.1 ∙ goes.all v o.0
                ∙ ap (λ (k : List Plane). sums_of (k ++ brought_after p m log v)) (sym kept.0)
                ∙ ap (λ (k : List Plane). sums_of (taken_after p m more v ++ k)) (sym kept.1)
          ]

    pub goes_more : GoesByFine r p m (log ++ c ∷ [])
    goes_more =
        let own = slots-own now c.t c.u c.place live.0 low_t low_u t r q goes.own merged low in
        let room = goes.room in
        let less = fewer in
        let next = next-after now c.t c.u c.place in
        let slots = ap length w.slots ∙ length-set t.slots c.s (get_or t.slots c.t 0) in
        record {
          policy = goes.policy;
          brought = λ v there.
              each_brought v (subst (λ (z : Surface). is_live z v ≡ true) later there);
          all = λ v there.
              each_all v (subst (λ (z : Surface). is_live z v ≡ true) later there);
          own = subst (λ (z : Surface). HaveOwnSlots z r.slots) (sym later) own;
          room = omega (arith, ap next_vertex later, ap live_count_of later);
        }
