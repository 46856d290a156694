use Rattle.std.proofs.Common.{◌≡◌, true, subst}
use Rattle.pm_base.specs.Meshes.{mesh_of}
use Rattle.pm_keeping.specs.Keeping.{kept_in}
use Rattle.pm_policies.specs.PolicyRuns.{IsRunBy}
use Rattle.pm_simplify.proofs.Running.{ended_run}
use Rattle.pm_fine_costs.specs.FinePolicy.{fine_keeping}
use Rattle.pm_fine_costs.specs.Steps.{Stepwise, policy_of}
use Rattle.pm_fine_costs.proofs.steps.FineRun.into_parts.Goals as goal

pub returns-clause-end : goal.returns-clause-end
returns-clause-end c =
    let run = c.self.inside.run in
    subst (λ (r : Stepwise). r.ended ≡ true → IsRunBy (policy_of r) r.mesh r.target r.log)
    c.self.view_is (λ is.
    ended_run (fine_keeping (kept_in run.kept.items)) (mesh_of c.self.inside.mesh) run.target_faces
    run.log.items c.self.invariant.going.under_way.begun (c.self.invariant.end is))
