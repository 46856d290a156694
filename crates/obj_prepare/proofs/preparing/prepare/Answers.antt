use Rattle.std.proofs.Common.{sym, subst, arith}
use Rattle.pm_base.specs.Sides.{net_of}
use Rattle.pm_base.specs.Fans.{IsOrientedManifold}
use Rattle.obj_prepare.proofs.PiecesMade.{pieces_old, pieces_manifold, pieces_formed, pieces_made}
use Rattle.obj_prepare.proofs.PiecesMade.{pieces_too_many}
use Rattle.obj_prepare.proofs.preparing.prepare.Goals as goal

pub returns-then-len-clause-err : goal.returns-then-len-clause-err
returns-then-len-clause-err c =
    pieces_too_many c.requires c.in-Ok.ensures (omega (arith, c.len.ensures, c.if-len.true))

pub mesh_of_split-requires : goal.mesh_of_split-requires
mesh_of_split-requires c = pieces_old c.requires c.in-Ok.ensures

pub returns-in-Ok-mesh_of_split-clause-ok : goal.returns-in-Ok-mesh_of_split-clause-ok
returns-in-Ok-mesh_of_split-clause-ok c =
    pieces_made c.requires c.in-Ok.ensures c.in-Ok-mesh_of_split.mesh.points.items
    c.in-Ok-mesh_of_split.mesh.faces.items c.in-Ok-count_up.notes
    c.in-Ok-mesh_of_split.ensures.points c.in-Ok-mesh_of_split.ensures.faces
    c.in-Ok-count_up.ensures

pub returns-in-Ok-mesh_of_split-clause-formed : goal.returns-in-Ok-mesh_of_split-clause-formed
returns-in-Ok-mesh_of_split-clause-formed c =
    pieces_formed c.requires c.in-Ok.ensures c.in-Ok-mesh_of_split.mesh.points.items
    c.in-Ok-mesh_of_split.mesh.faces.items c.in-Ok-mesh_of_split.ensures.points
    c.in-Ok-mesh_of_split.ensures.faces (omega (arith, c.len.ensures, c.if-len.false))

pub returns-in-Ok-mesh_of_split-clause-manifold : goal.returns-in-Ok-mesh_of_split-clause-manifold
returns-in-Ok-mesh_of_split-clause-manifold c =
    subst (λ fs. IsOrientedManifold (net_of fs)) (sym c.in-Ok-mesh_of_split.ensures.faces)
    (pieces_manifold c.requires c.in-Ok.ensures)
