use Rattle.ply_read.specs.Meaning.{header_in}
use Rattle.ply_read.specs.Told.{mesh_in}
use Rattle.ply_read.proofs.BodyLaws.{body_read, body_stops}
use Rattle.ply_read.proofs.read.read_body.Goals as goal

pub returns-in-Ok-clause-ok : goal.returns-in-Ok-clause-ok
returns-in-Ok-clause-ok c =
    rw (c.trailing.ensures, c.losses_of.ensures, c.deref-in-Ok.ensures.value)
    (body_read c.args.bytes.now (header_in c.args.header.now c.args.body.now)
    (mesh_in c.new-mesh.result c.args.body.now)
    (mesh_in c.take_declared.new.self c.in-Ok.rest.now) (c.new-mesh.ensures c.args.body.now)
    (rw c.deref.ensures.value at c.in-Ok.ensures.ok))

pub returns-in-Err-Stop-clause-err : goal.returns-in-Err-Stop-clause-err
returns-in-Err-Stop-clause-err c =
    rw c.spot_of.ensures
    (body_stops c.args.bytes.now (header_in c.args.header.now c.args.body.now)
    (mesh_in c.new-mesh.result c.args.body.now) c.in-Err-Stop.stop
    (c.new-mesh.ensures c.args.body.now)
    (rw (c.deref.ensures.value, c.in-Err-Stop.field-0-is) at c.in-Err-Stop.ensures.err))
