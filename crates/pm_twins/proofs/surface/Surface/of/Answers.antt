use Rattle.pm_base.specs.Meshes.{mesh_of}
use Rattle.pm_twins.proofs.Faultless.{repeats_none}
use Rattle.pm_twins.proofs.surface.Surface.of.Goals as goal

pub returns-in-Err-EdgeTwice-clause-refused : goal.returns-in-Err-EdgeTwice-clause-refused
returns-in-Err-EdgeTwice-clause-refused c =
    let fault = rw c.in-Err-EdgeTwice.field-0-is at c.in-Err-EdgeTwice.ensures.edge_twice in
    λ manifold. absurd
    (repeats_none (mesh_of c.args.mesh) c.requires manifold.no_side_twice
    c.in-Err-EdgeTwice.face.0 fault)

pub returns-in-Err-NotFan-clause-refused : goal.returns-in-Err-NotFan-clause-refused
returns-in-Err-NotFan-clause-refused c =
    let fault = rw c.in-Err-NotFan.field-0-is at c.in-Err-NotFan.ensures.not_fan in
    λ manifold. absurd
    (fault.broken.no_fan (manifold.fans c.in-Err-NotFan.vertex fault.broken.used))
