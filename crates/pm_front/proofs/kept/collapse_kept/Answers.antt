use Rattle.std.proofs.Common.{◌+◌, arith}
use Rattle.pm_base.specs.Counts.{set_of}
use Rattle.pm_forest.proofs.FaceNumbers.{first_face-mono}
use Rattle.pm_front.proofs.KeptLaws.{own_there, collapse-shown}
use Rattle.pm_front.proofs.kept.collapse_kept.Goals as goal

pub take_out-requires-clause-ordered : goal.take_out-requires-clause-ordered
take_out-requires-clause-ordered c =
    let more = first_face-mono c.args.indexed.now c.args.k (c.args.k + 1) (omega arith) in
    omega (arith, more, c.first_face.ensures.value, c.face_after.ensures.value)

pub take_out-requires-clause-there : goal.take_out-requires-clause-there
take_out-requires-clause-there c =
    own_there c.args.indexed.now (set_of c.args.flags.now) c.args.k c.requires.record
    c.first_face.result c.face_after.result c.first_face.ensures.value
    c.face_after.ensures.value
    c.args.faces.now.list c.requires.right c.requires.is_split

pub returns-clause-right : goal.returns-clause-right
returns-clause-right c =
    collapse-shown c.args.indexed.now (set_of c.args.flags.now) c.args.k c.requires.record
    c.first_face.result c.face_after.result c.first_face.ensures.value
    c.face_after.ensures.value
    c.args.faces.now.list c.requires.right c.take_out.new.members.list c.take_out.ensures.list
