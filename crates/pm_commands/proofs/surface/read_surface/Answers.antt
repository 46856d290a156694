use Rattle.std.proofs.lemmas.Result.{err_from_is_err_and}
use Rattle.pm_base.specs.Meshes.{mesh_of}
use Rattle.pm_base.specs.declared.mesh.Mesh.{Mesh as HeldMesh}
use Rattle.pm_commands.proofs.SurfaceLaws.{obj_stops, all_stand, all_stop}
use Rattle.pm_commands.proofs.surface.read_surface.Goals as goal

pub returns-in_err-mesh-clause-err : goal.returns-in_err-mesh-clause-err
returns-in_err-mesh-clause-err g c =
    let p = err_from_is_err_and c.from_residual.result c.from_residual.ensures.1 in
    rw (p.1, p.2)
    (obj_stops c.args.digits HeldMesh c.in_err-mesh.field-0.0 _ _ _ _ c.in_err-mesh.ensures.err
    c.in_err-mesh.ensures.cause)

pub returns-clause-surface : goal.returns-clause-surface
returns-clause-surface g c =
    all_stand c.args.digits _ (mesh_of c.in_ok-mesh.mesh) c.surface_of.result
    c.in_ok-mesh.ensures.ok c.surface_of.ensures.mesh c.surface_of.ensures.start

pub returns-clause-err : goal.returns-clause-err
returns-clause-err g c =
    all_stop c.args.digits _ _ (mesh_of c.in_ok-mesh.mesh) c.surface_of.result _ _
    c.in_ok-mesh.ensures.ok c.surface_of.ensures.fault c.in_ok-mesh.ensures.cause.same
