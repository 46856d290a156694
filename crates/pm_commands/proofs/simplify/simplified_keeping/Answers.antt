use Rattle.std.proofs.Common.{◌≡◌, ◌∙◌, IfOk, refl, sym, subst}
use Rattle.pm_base.specs.Meshes.{Mesh, mesh_of}
use Rattle.pm_forest.specs.Meshes.{input_mesh_of}
use Rattle.pm_runs.specs.Runs.{IsStartOfRun, IsRun}
use Rattle.pm_policies.proofs.OneRun.{one_run_by_a_policy}
use Rattle.pm_commands.proofs.SimplifiedLaws.{made_with}
use Rattle.pm_commands.proofs.simplify.simplified_keeping.Goals as goal

pub from_log-requires-clause-start : goal.from_log-requires-clause-start
from_log-requires-clause-start c =
    let same : mesh_of c.in_ok-mesh.mesh ≡ c.args.surface = c.in_ok-mesh.ensures ∙ c.mesh.ensures in
    let start : IsStartOfRun c.args.surface = record {
      formed = c.invariant.ensures.formed;
      manifold = c.invariant.ensures.manifold;
    } in
    subst (λ (m : Mesh). IsStartOfRun m) (sym same) start

pub from_log-requires-clause-run : goal.from_log-requires-clause-run
from_log-requires-clause-run c =
    let same : mesh_of c.in_ok-mesh.mesh ≡ c.args.surface = c.in_ok-mesh.ensures ∙ c.mesh.ensures in
    let log = c.in_ok-log.log.items in
    let known =
    one_run_by_a_policy _ c.args.surface c.args.target log c.in_ok-log.ensures.run in
    subst (λ (m : Mesh). IsRun m log) (sym same) known.run

pub returns-clause-simplified : goal.returns-clause-simplified
returns-clause-simplified c border keeps =
    made_with border (mesh_of c.in_ok-mesh.mesh) c.args.surface _ c.args.kept.now c.args.target
    c.in_ok-log.log.items c.from_log.result (c.in_ok-mesh.ensures ∙ c.mesh.ensures) refl keeps
    c.in_ok-log.ensures.run c.from_log.ensures.hierarchy

pub returns-clause-mesh : goal.returns-clause-mesh
returns-clause-mesh c =
    subst (λ (m : Mesh). IfOk c.from_log.result (λ h. input_mesh_of h ≡ m))
    (c.in_ok-mesh.ensures ∙ c.mesh.ensures) c.from_log.ensures.mesh
