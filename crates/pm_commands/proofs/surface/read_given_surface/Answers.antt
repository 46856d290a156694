use Rattle.std.proofs.Common.{◌≡◌, length, ap, ◌∙◌}
use Rattle.std.proofs.lemmas.Bool.{both_ways}
use Rattle.std.proofs.lemmas.Result.{err_from_is_err_and}
use Rattle.pm_base.specs.Meshes.{Mesh, mesh_of}
use Rattle.obj_read.specs.declared.read.Worded.{Worded}
use Rattle.pm_commands.specs.Surface.{obj_fail}
use Rattle.pm_commands.proofs.SurfaceLaws.{obj_stops, mesh_stops, mesh_stands}
use Rattle.pm_commands.proofs.GivenLaws.{given_stops, is_given, none_given}
use Rattle.pm_commands.proofs.surface.read_given_surface.Goals as goal
use Rattle.pm_commands.proofs.surface.read_given_surface.Goals.{
  else-worded-via-then-worded+else-len-eq0,
  else-worded-via-else-worded,
}

pub returns-in_err-mesh-clause-err : goal.returns-in_err-mesh-clause-err
returns-in_err-mesh-clause-err g c =
    let p = err_from_is_err_and c.from_residual.result c.from_residual.ensures.1 in
    rw (p.1, p.2)
    (given_stops c.args.digits (obj_fail c.in_err-mesh.field-0.0) _ _ _ _
    (obj_stops c.args.digits Worded c.in_err-mesh.field-0.0 _ _ _ _ c.in_err-mesh.ensures.err
    c.in_err-mesh.ensures.cause))

pub returns-in_err-surface-clause-err : goal.returns-in_err-surface-clause-err
returns-in_err-surface-clause-err g c =
    let p = err_from_is_err_and c.from_residual-in_err-surface.result
    c.from_residual-in_err-surface.ensures.1 in
    rw (p.1, p.2)
    (given_stops c.args.digits c.in_err-surface.field-0.0 _ _ _ _
    (mesh_stops c.args.digits c.in_err-surface.field-0.0 _ _ (mesh_of c.in_ok-mesh.field-0.mesh) _ _
    c.in_ok-mesh.ensures.ok c.in_err-surface.ensures.fault c.in_ok-mesh.ensures.cause.same))

pub returns-then-len-eq0-clause-err : goal.returns-then-len-eq0-clause-err
returns-then-len-eq0-clause-err g c =
    let m : Mesh = c.in_ok-surface.surface in
    let points : c.len.result ≡ length m.points =
    c.len.ensures ∙ ap (λ (m : Mesh). length m.points) c.mesh.ensures in (
      none_given c.args.digits _ m c.in_ok-mesh.field-0.worded
          (mesh_stands c.args.digits _ (mesh_of c.in_ok-mesh.field-0.mesh) m
          c.in_ok-surface.ensures.mesh c.in_ok-mesh.ensures.ok
          c.in_ok-surface.ensures.start.manifold)
          c.in_ok-mesh.ensures.worded c.if-worded.true (cc (points, c.if-len-eq0.true)),
      c.in_ok-mesh.ensures.cause.same,
    )

pub returns-clause-surface : goal.returns-clause-surface
returns-clause-surface g c =
    let m : Mesh = c.in_ok-surface.surface in
    is_given c.args.digits _ m c.in_ok-mesh.field-0.worded
    (mesh_stands c.args.digits _ (mesh_of c.in_ok-mesh.field-0.mesh) m c.in_ok-surface.ensures.mesh
    c.in_ok-mesh.ensures.ok c.in_ok-surface.ensures.start.manifold)
    c.in_ok-mesh.ensures.worded
    (elim c.else-worded.branch [
      | else-worded-via-then-worded+else-len-eq0 w ↦
          let points : w.len.result ≡ length m.points =
          w.len.ensures ∙ ap (λ (m : Mesh). length m.points) w.mesh.ensures in
          λ on none. w.if-len-eq0.false (points ∙ none)
      | else-worded-via-else-worded w ↦ λ on none. both_ways _ w.if-worded.false on
    ])
