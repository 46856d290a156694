use Rattle.stl_read.specs.Recent.{IsKnown}
use Rattle.stl_read.proofs.RecentLaws.{corner_met}
use Rattle.stl_read.proofs.binary.corner_at.Goals as goal

pub returns-in-Some-clause-ok : goal.returns-in-Some-clause-ok
returns-in-Some-clause-ok c =
    let points = c.args.reader.now.vertices.points.items in
    let so : IsKnown points c.words_at-words.result c.in-Some.vertex =
    c.in-Some.ensures points c.requires.known in
    corner_met c.args.bytes.now c.args.at points c.in-Some.vertex
    (rw c.words_at-words.ensures at so) c.requires.few
