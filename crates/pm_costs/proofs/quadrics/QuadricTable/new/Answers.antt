use Rattle.pm_base.specs.Meshes.{mesh_of}
use Rattle.pm_costs.proofs.PlainLaws.{made_first}
use Rattle.pm_costs.proofs.quadrics.QuadricTable.new.Goals as goal

pub returns : goal.returns
returns c =
    let made = rw (c.as_slice-points.ensures, c.as_slice.ensures) at c.with_room.ensures in
    made_first (mesh_of c.args.mesh.now) c.with_room.result made.len made.slots made.quadrics
