use Rattle.stl_read.proofs.RecentLaws.{corner_known, still_known}
use Rattle.stl_read.proofs.reader.Reader.put.Goals as goal

pub returns-in-Ok-clause-known : goal.returns-in-Ok-clause-known
returns-in-Ok-clause-known c =
    let reader = c.args.self.now in
    let points = c.corner.new.self.points.items in
    c.note.ensures points
    (still_known c.args.at reader.vertices.points.items points c.args.p.now c.in-Ok.vertex
    reader.recent.slots.items c.in-Ok.ensures.ok c.requires.known)
    (corner_known c.args.at reader.vertices.points.items points c.args.p.now c.in-Ok.vertex
    c.args.words c.in-Ok.ensures.ok c.requires.told)
