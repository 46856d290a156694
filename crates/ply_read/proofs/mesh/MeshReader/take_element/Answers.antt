use Rattle.std.proofs.Common.{◌≡◌, ◌∙◌, length}
use Rattle.ply_read.specs.Body.{empty_row, with_property, with_row, with_element}
use Rattle.ply_read.specs.Steps.{folded}
use Rattle.ply_read.specs.Told.{mesh_in, row_in}
use Rattle.ply_read.proofs.BodyLaws.{tells_next}
use Rattle.ply_read.proofs.mesh.MeshReader.take_element.Goals as goal

pub returns-in-Err-put-clause-err : goal.returns-in-Err-put-clause-err
unfolding with_element
returns-in-Err-put-clause-err c =
    let self = c.args.self.now in
    let vertices : c.len.result ≡ length self.points.items = c.len.ensures ∙ self.points.ok.0 in
    tells_next
    (folded (with_property c.args.e c.args.kind (length self.points.items)) c.args.properties.now
    (empty_row c.args.rest.now)) (with_row c.args.kind (mesh_in self c.args.rest.now))
    (row_in c.take_all.new.self c.in-Ok.after.now) c.in-Err-put.fail
    (rw vertices at c.in-Ok.ensures.ok) (c.in-Err-put.ensures.err c.args.rest.now)
