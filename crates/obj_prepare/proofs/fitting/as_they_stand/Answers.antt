use Rattle.std.proofs.Common.{rules, ◌≡◌}
use Rattle.pm_base.specs.Meshes.{mesh_of}
use Rattle.obj_prepare.specs.Nothing.{AreWhole, mesh_over}
use Rattle.obj_prepare.proofs.FittingLaws.{stands_prepared}
use Rattle.obj_prepare.proofs.fitting.as_they_stand.Goals as goal

-- src/fitting.rt:94:1
pub returns-clause-ok : goal.returns-clause-ok
returns-clause-ok c =
    let whole : AreWhole c.args.places.now c.args.faces.now = search rules in
    let is : c.in-Some.surface ≡ mesh_over c.args.places.now c.args.faces.now = search rules in
    stands_prepared c.args.places.now c.args.faces.now c.in-Some.surface
    (mesh_of c.into_parts-mesh.result.0) c.nothing_done-notes.result c.in_ok-inside_out.inside_out
    c.requires whole is c.into_parts-mesh.ensures.mesh c.into_parts-mesh.ensures.manifold
    c.in_ok-inside_out.ensures c.nothing_done-notes.ensures
