use Rattle.std.proofs.Common.{◌+◌, arith}
use Rattle.pm_base.specs.Counts.{set_of}
use Rattle.pm_forest.proofs.FaceNumbers.{first_face-mono}
use Rattle.pm_front.proofs.KeptLaws.{own_absent, split-shown}
use Rattle.pm_front.proofs.kept.split_kept.Goals as goal

pub put_in-requires-clause-ordered : goal.put_in-requires-clause-ordered
put_in-requires-clause-ordered c =
    let more = first_face-mono c.args.indexed.now c.args.k (c.args.k + 1) (omega arith) in
    omega (arith, more, c.first_face.ensures.value, c.face_after.ensures.value)

pub put_in-requires-clause-absent : goal.put_in-requires-clause-absent
put_in-requires-clause-absent c =
    own_absent c.args.indexed.now (set_of c.args.flags.now) c.args.k c.requires.record
    c.first_face.result c.face_after.result c.first_face.ensures.value
    c.face_after.ensures.value
    c.args.faces.now.list c.requires.right c.requires.unsplit

pub returns-clause-right : goal.returns-clause-right
returns-clause-right c =
    split-shown c.args.indexed.now (set_of c.args.flags.now) c.args.k c.requires.record
    c.first_face.result c.face_after.result c.first_face.ensures.value
    c.face_after.ensures.value
    c.args.faces.now.list c.requires.right c.put_in.new.members.list c.put_in.ensures.list
