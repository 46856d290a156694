-- The laws of runs, from the lemmas.
use Rattle.pm_quadric.specs.Planes.{Plane}
use Rattle.std.proofs.lemmas.Grind.{common_steps}
use Rattle.std.proofs.Common.{ℕ, ◌+◌, ◌<◌, Some, List, length, ap, ◌∙◌, arith}
use Rattle.std.proofs.lemmas.List.{length-map}
use Rattle.pm_base.specs.declared.log.Collapse.{Collapse}
use Rattle.pm_base.specs.Meshes.{Mesh}
use Rattle.pm_runs.specs.Surfaces.{surface_of}
use Rattle.pm_runs.specs.Planes.{planes_at, planes_after, planes_from}
use Rattle.pm_runs.specs.Runs.{surface_from, surface_after, IsRun}
use Rattle.pm_runs.specs.RunLaws.{RunsGrow, EntriesAreSteps, RunsStayProper, RunsAreMerges}
use Rattle.pm_runs.specs.RunLaws.{RunsStayManifolds, SparedVerticesAreLive, RunsAreShort}
use Rattle.pm_runs.specs.RunLaws.{PlanesStay, PlanesAreKept, KeysAreKept, CandidatesAreLocal}
use Rattle.pm_runs.specs.RunLaws.{OneRunToATarget, RunsAreBuilt}
use Rattle.pm_runs.proofs.Live.{input-sound, live_below, point_live}
use Rattle.pm_runs.proofs.Logs.{surface_after-nil, surface_after-more, steps_from-parts}
use Rattle.pm_runs.proofs.Logs.{planes_from-append, run-nil, run-more, run-parts, run-step}
use Rattle.pm_runs.proofs.Logs.{run-sound, run-proper, next-from, next-run}
use Rattle.pm_runs.proofs.LeastRuns.{one_run, run-to-run, begun-nil, begun-more, begun-end}
use Rattle.pm_runs.proofs.Living.{WasOrCame, live-from, from-live, planes-stay, first_live_count}
use Rattle.pm_runs.proofs.Living.{live-count-from, some_left}
use Rattle.pm_runs.proofs.PlaneCounts.{first_count, run-count, pair_few}
use Rattle.pm_runs.proofs.Manifolds.{run-manifold}
use Rattle.pm_runs.proofs.MergedRuns.{run-alike}
use Rattle.pm_runs.proofs.Keys.{place-kept, key-kept, candidate-stays, candidate-was}

pub runs_grow : RunsGrow
runs_grow m = (
  run-nil m,
  surface_after-nil m,
  (λ log c. ((run-parts m log c, (λ p. run-more m log c p.0 p.1)), surface_after-more m log c)),
)

pub entries_are_steps : EntriesAreSteps
entries_are_steps m log run i c l = run-step m log run i c l

pub runs_stay_proper : RunsStayProper
runs_stay_proper m start log run = (run-sound m start log run, run-proper m start log run)

point_below : (m : Mesh) (log : List Collapse) (v : ℕ) → WasOrCame (surface_of m) log v
    → v < length m.points + length log
point_below m log v way = grind (arith, common_steps, length-map, live_below)

was_or_came : (m : Mesh) (log : List Collapse) (v : ℕ) → v < length m.points + length log
    → WasOrCame (surface_of m) log v
was_or_came m log v l = grind (arith, common_steps, length-map, point_live)

pub spared_vertices_are_live : SparedVerticesAreLive
unfolding IsRun surface_after
spared_vertices_are_live m start log run =
    let sound = input-sound m start.formed in (
      next-run m log,
      (λ v. (
        (λ live. let (way, spared) = live-from (surface_of m) sound log run v live in
            (point_below m log v way, spared)),
        (λ p. from-live (surface_of m) sound log run v (was_or_came m log v p.0) p.1),
      )),
    )

pub runs_are_short : RunsAreShort
unfolding IsRun surface_after
runs_are_short m start log run =
    let sound = input-sound m start.formed in
    let first = first_live_count m in
    let all = live-count-from (surface_of m) sound log run in (
      omega arith,
      (λ some. let left = some_left (surface_of m) sound log run (omega arith) in omega arith),
    )

pub planes_stay : PlanesStay
unfolding IsRun surface_after planes_after
planes_stay m log more run v l =
    let (first, rest) = steps_from-parts (surface_of m) log more run in
    let n = next-from (surface_of m) log in
    let points = length-map m.points Some in
    ap (λ (f : ℕ → List Plane). f v) (planes_from-append (planes_at m) log more) ∙
    planes-stay (planes_from (planes_at m) log) (surface_from (surface_of m) log) more rest v
    (omega arith)

pub planes_are_kept : PlanesAreKept
planes_are_kept m start log run = grind (arith, common_steps, first_count, pair_few, run-count)

pub keys_are_kept : KeysAreKept
keys_are_kept m log c step p q x y =
    (place-kept m log c step p q x y, key-kept m log c step p q x y)

pub candidates_are_local : CandidatesAreLocal
candidates_are_local m start log c run step p q x y =
    let sound = run-sound m start log run in
    let proper = run-proper m start log run in (
      candidate-stays m log c step sound proper p q x y,
      candidate-was m log c step sound proper p q
          x y,
    )

pub one_run_to_a_target : OneRunToATarget
one_run_to_a_target m target log run =
    (run-to-run m target log run, (λ other also. one_run m target other log also run))

pub runs_are_built : RunsAreBuilt
runs_are_built m target = (
  begun-nil m target,
  (λ log begun. ((λ c step. begun-more m target log c begun step), begun-end m target log begun)),
)

pub runs_stay_manifolds : RunsStayManifolds
runs_stay_manifolds m start log run = run-manifold m start log run

pub runs_are_merges : RunsAreMerges
runs_are_merges m log run = run-alike m log run
