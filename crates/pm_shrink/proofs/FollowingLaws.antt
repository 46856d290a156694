-- A mesh that is being simplified follows a run: at its start, and over one collapse more.
use Rattle.std.proofs.Common.{◌≡◌, ℕ, ◌<◌, List, [], ◌∷◌, ◌++◌, sym, ap, ◌∙◌, subst, arith}
use Rattle.std.proofs.lemmas.Grind.{common_steps}
use Rattle.pm_base.specs.Place.{Place}
use Rattle.pm_base.specs.declared.log.Collapse.{Collapse}
use Rattle.pm_base.specs.Meshes.{Mesh}
use Rattle.pm_runs.specs.Surfaces.{Surface, surface_of, collapsed}
use Rattle.pm_runs.specs.Pairs.{IsLegalPair}
use Rattle.pm_runs.specs.Steps.{entry_of}
use Rattle.pm_runs.specs.Runs.{IsStartOfRun, IsStep, surface_after}
use Rattle.pm_runs.proofs.Logs.{run-nil, surface_after-nil, run-more, surface_after-more}
use Rattle.pm_shrink.specs.Shrinking.{Shrinking}
use Rattle.pm_shrink.specs.Following.{IsAfter}

pub start_after : (m : Mesh) (s : Shrinking) → IsStartOfRun m → s.surface ≡ surface_of m
    → IsAfter m [] s
start_after m s start made = grind (arith, common_steps, run-nil, surface_after-nil)

step_after : (m : Mesh) (log : List Collapse) (c : Collapse) (s r : Shrinking) → IsAfter m log s
    → IsStep (surface_after m log) c →
    r.surface ≡ collapsed s.surface c.t c.u c.place → IsAfter m (log ++ c ∷ []) r
step_after m log c s r after step made = grind (arith, common_steps, run-more, surface_after-more)

-- By what a collapse says of the pair, of the log's entry and of the mesh afterwards.
pub collapse_after : {m : Mesh} {log : List Collapse} {s r : Shrinking} {a b : ℕ} {place : Place}
    {c : Collapse} → IsAfter m log s → a < b → IsLegalPair s.surface a b place
    → c ≡ entry_of s.surface a b place → r.surface ≡ collapsed s.surface a b place
    → IsAfter m (log ++ c ∷ []) r
collapse_after {m} {log} {s} {r} {a} {b} {place} {c} after order legal entry made =
    let now : Surface = surface_after m log in
    let d : Collapse = entry_of now a b place in
    let same : c ≡ d = entry ∙ ap (λ (z : Surface). entry_of z a b place) after.surface in
    let step : IsStep now d = grind (arith, common_steps) in
    subst (λ (x : Collapse). IsAfter m (log ++ x ∷ []) r) (sym same)
    (step_after m log d s r after step made)
