-- A run from its first collapse on and up to its last one.
use Rattle.std.proofs.Common.{◌≡◌, ◌≢◌, ℕ, zero, suc, ◌+◌, ◌<◌, Some, List, [], ◌∷◌, ◌++◌, length}
use Rattle.std.proofs.Common.{take, refl, ap, ◌∙◌, arith}
use Rattle.std.specs.Prelude.{slice_index_or}
use Rattle.std.proofs.lemmas.Bool.{cond-true, cond-false, eq-eqb, ne_eqb}
use Rattle.std.proofs.lemmas.List.{length-map}
use Rattle.pm_base.specs.declared.log.Collapse.{Collapse}
use Rattle.pm_base.specs.Meshes.{Mesh}
use Rattle.pm_quadric.specs.Planes.{Plane}
use Rattle.pm_runs.specs.Surfaces.{Surface, next_vertex, net_of_surface, surface_of, IsSurface}
use Rattle.pm_runs.specs.Surfaces.{collapsed}
use Rattle.pm_runs.specs.Planes.{planes_at, joined_planes, planes_from, planes_after}
use Rattle.pm_runs.specs.Runs.{IsStartOfRun, after_entry, surface_from, surface_after, IsStep}
use Rattle.pm_runs.specs.Runs.{AreSteps, IsRun}
use Rattle.pm_runs.specs.Merged.{IsProper}
use Rattle.pm_runs.proofs.Live.{collapse-sound, input-sound, next-after}
use Rattle.pm_runs.proofs.Proper.{collapse-proper, input-proper, legal-apart}

-- Two logs in a row.
pub surface_from-append : (s : Surface) (cs ds : List Collapse)
    → surface_from s (cs ++ ds) ≡ surface_from (surface_from s cs) ds
surface_from-append s [] ds = refl
surface_from-append s (c ∷ cs) ds = surface_from-append (after_entry s c) cs ds

pub planes_from-append : (planes : ℕ → List Plane) (cs ds : List Collapse)
    → planes_from planes (cs ++ ds) ≡ planes_from (planes_from planes cs) ds
planes_from-append planes [] ds = refl
planes_from-append planes (c ∷ cs) ds = planes_from-append (joined_planes planes c) cs ds

pub steps_from-append : (s : Surface) (cs ds : List Collapse) → AreSteps s cs
    → AreSteps (surface_from s cs) ds → AreSteps s (cs ++ ds)
steps_from-append s [] ds a b = b
steps_from-append s (c ∷ cs) ds a b = (a.0, steps_from-append (after_entry s c) cs ds a.1 b)

pub steps_from-parts : (s : Surface) (cs ds : List Collapse) → AreSteps s (cs ++ ds)
    → AreSteps s cs × AreSteps (surface_from s cs) ds
steps_from-parts s [] ds a = (tt, a)
steps_from-parts s (c ∷ cs) ds a = let p = steps_from-parts (after_entry s c) cs ds a.1 in
    ((a.0, p.0), p.1)

-- One more entry.
pub surface_after-nil : (m : Mesh) → surface_after m [] ≡ surface_of m
unfolding surface_after
surface_after-nil m = refl

pub surface_after-more : (m : Mesh) (log : List Collapse) (c : Collapse)
    → surface_after m (log ++ c ∷ []) ≡ collapsed (surface_after m log) c.t c.u c.place
unfolding surface_after
surface_after-more m log c = surface_from-append (surface_of m) log (c ∷ [])

pub planes_after-nil : (m : Mesh) (v : ℕ) → planes_after m [] v ≡ planes_at m v
unfolding planes_after
planes_after-nil m v = refl

pub planes_after-more : (m : Mesh) (log : List Collapse) (c : Collapse) (v : ℕ)
    → planes_after m (log ++ c ∷ []) v ≡ joined_planes (planes_after m log) c v
unfolding planes_after
planes_after-more m log c v =
    ap (λ (f : ℕ → List Plane). f v) (planes_from-append (planes_at m) log (c ∷ []))

pub planes_after-new : (m : Mesh) (log : List Collapse) (c : Collapse)
    → planes_after m (log ++ c ∷ []) c.s ≡ planes_after m log c.t ++ planes_after m log c.u
planes_after-new m log c = planes_after-more m log c c.s ∙ cond-true _ _ _ (eq-eqb c.s c.s refl)

pub planes_after-other : (m : Mesh) (log : List Collapse) (c : Collapse) (v : ℕ) → v ≢ c.s
    → planes_after m (log ++ c ∷ []) v ≡ planes_after m log v
planes_after-other m log c v n = planes_after-more m log c v ∙ cond-false _ _ _ (ne_eqb v c.s n)

pub run-nil : (m : Mesh) → IsRun m []
unfolding IsRun
run-nil m = tt

pub run-more : (m : Mesh) (log : List Collapse) (c : Collapse) → IsRun m log
    → IsStep (surface_after m log) c → IsRun m (log ++ c ∷ [])
unfolding IsRun surface_after
run-more m log c run step = steps_from-append (surface_of m) log (c ∷ []) run (step, tt)

pub run-parts : (m : Mesh) (log : List Collapse) (c : Collapse) → IsRun m (log ++ c ∷ [])
    → IsRun m log × IsStep (surface_after m log) c
unfolding IsRun surface_after
run-parts m log c run = let p = steps_from-parts (surface_of m) log (c ∷ []) run in (p.0, p.1.0)

-- What a step says of its entry.
pub step-new : (s : Surface) (c : Collapse) → IsStep s c → c.s ≡ next_vertex s
step-new s c step = ap (λ (d : Collapse). d.s) step.entry

-- A run stays sound and proper.
pub stays_sound : (s : Surface) (cs : List Collapse) → IsSurface s → AreSteps s cs
    → IsSurface (surface_from s cs)
stays_sound s [] sound steps = sound
stays_sound s (c ∷ cs) sound steps =
    stays_sound (after_entry s c) cs (collapse-sound s sound c.t c.u c.place) steps.1

pub stays_proper : (s : Surface) (cs : List Collapse) → IsSurface s → IsProper (net_of_surface s)
    → AreSteps s cs → IsProper (net_of_surface (surface_from s cs))
stays_proper s [] sound proper steps = proper
stays_proper s (c ∷ cs) sound proper steps =
    stays_proper (after_entry s c) cs (collapse-sound s sound c.t c.u c.place)
    (collapse-proper s sound proper c.t c.u c.place
    (legal-apart s c.t c.u c.place steps.0.legal)) steps.1

pub run-sound : (m : Mesh) → IsStartOfRun m → (log : List Collapse) → IsRun m log
    → IsSurface (surface_after m log)
unfolding IsRun surface_after
run-sound m start log run = stays_sound (surface_of m) log (input-sound m start.formed) run

pub run-proper : (m : Mesh) → IsStartOfRun m → (log : List Collapse) → IsRun m log
    → IsProper (net_of_surface (surface_after m log))
unfolding IsRun surface_after
run-proper m start log run =
    stays_proper (surface_of m) log (input-sound m start.formed) (input-proper m start.manifold) run

-- Numbers go up by one at each step.
pub next-from : (s : Surface) (cs : List Collapse)
    → next_vertex (surface_from s cs) ≡ next_vertex s + length cs
next-from s [] = omega arith
next-from s (c ∷ cs) = let e = next-from (after_entry s c) cs in let n =
    next-after s c.t c.u c.place in omega arith

pub next-run : (m : Mesh) (log : List Collapse) → next_vertex (surface_after m log)
    ≡ length m.points + length log
unfolding surface_after
next-run m log = let e = next-from (surface_of m) log in let n =
    length-map m.points Some in omega arith

-- Each entry is a step of the surface after those before it.
pub entry-step : (s : Surface) (cs : List Collapse) → AreSteps s cs → (i : ℕ) (d : Collapse)
    → i < length cs → IsStep (surface_from s (take i cs)) (slice_index_or cs i d)
entry-step s [] steps i d l = absurd (omega arith)
entry-step s (c ∷ cs) steps zero d l = steps.0
entry-step s (c ∷ cs) steps (suc i) d l = entry-step (after_entry s c) cs steps.1 i d (omega arith)

pub run-step : (m : Mesh) (log : List Collapse) → IsRun m log → (i : ℕ) (d : Collapse)
    → i < length log → IsStep (surface_after m (take i log)) (slice_index_or log i d)
unfolding IsRun surface_after
run-step m log run i d l = entry-step (surface_of m) log run i d l

-- The first part of a run is a run.
pub run-front : (m : Mesh) (log more : List Collapse) → IsRun m (log ++ more) → IsRun m log
unfolding IsRun
run-front m log more run = (steps_from-parts (surface_of m) log more run).0
