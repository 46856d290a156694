-- A run of surfaces is a run of merges.
use Rattle.std.proofs.Common.{List, [], ◌∷◌, sym, subst}
use Rattle.pm_base.specs.declared.log.Collapse.{Collapse}
use Rattle.pm_base.specs.Meshes.{Mesh}
use Rattle.pm_base.specs.Sides.{Net, net_of}
use Rattle.pm_runs.specs.Surfaces.{Surface, net_of_surface, surface_of}
use Rattle.pm_runs.specs.Runs.{after_entry, surface_from, surface_after, AreSteps, IsRun}
use Rattle.pm_runs.specs.Merged.{Alike, merged, net_from}
use Rattle.pm_runs.proofs.Alike.{alike-merged}
use Rattle.pm_runs.proofs.Collapsed.{alike-trans, collapse-alike, input-alike}
use Rattle.pm_runs.proofs.Logs.{step-new}

merges-alike : (m : Net) (s : Surface) (cs : List Collapse) → Alike m (net_of_surface s)
    → AreSteps s cs → Alike (net_from m cs) (net_of_surface (surface_from s cs))
merges-alike m s [] alike steps = alike
merges-alike m s (c ∷ cs) alike steps =
    let one : Alike (merged m c.t c.u c.s) (merged (net_of_surface s) c.t c.u c.s) =
    alike-merged m (net_of_surface s) alike c.t c.u c.s in
    let two : Alike (merged (net_of_surface s) c.t c.u c.s) (net_of_surface (after_entry s c)) =
    subst (λ n. Alike (merged (net_of_surface s) c.t c.u n) (net_of_surface (after_entry s c)))
    (sym (step-new s c steps.0)) (collapse-alike s c.t c.u c.place) in
    merges-alike (merged m c.t c.u c.s) (after_entry s c) cs (alike-trans _ _ _ one two) steps.1

pub run-alike : (m : Mesh) (log : List Collapse) → IsRun m log
    → Alike (net_from (net_of m.faces) log) (net_of_surface (surface_after m log))
unfolding IsRun surface_after
run-alike m log run = merges-alike (net_of m.faces) (surface_of m) log (input-alike m) run
