use Rattle.std.proofs.Common.{refl}
use Rattle.pm_base.specs.Meshes.{mesh_of}
use Rattle.pm_runs.proofs.LeastRuns.{run-to-run}
use Rattle.pm_demo.proofs.SummaryLaws.{grid_start, run_of_grid}
use Rattle.pm_demo.proofs.scene.simplified_grid.Goals as goal

pub run_of-requires : goal.run_of-requires
run_of-requires c =
    (grid_start c.args.n (mesh_of c.in_ok-mesh.mesh) c.requires.some c.requires.most
    c.in_ok-mesh.ensures).formed

pub from_log-requires-clause-start : goal.from_log-requires-clause-start
from_log-requires-clause-start c =
    grid_start c.args.n (mesh_of c.in_ok-mesh.mesh) c.requires.some c.requires.most
    c.in_ok-mesh.ensures

pub from_log-requires-clause-run : goal.from_log-requires-clause-run
from_log-requires-clause-run c =
    run-to-run (mesh_of c.in_ok-mesh.mesh) 0 c.in_ok-log.log.items c.in_ok-log.ensures

pub returns-clause-of_grid : goal.returns-clause-of_grid
returns-clause-of_grid c =
    run_of_grid c.args.n (mesh_of c.in_ok-mesh.mesh) (mesh_of c.in_ok-mesh.mesh)
    c.in_ok-log.log.items c.from_log.result c.in_ok-mesh.ensures refl c.in_ok-log.ensures
    c.from_log.ensures.hierarchy
