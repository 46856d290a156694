use Rattle.obj_fit.specs.Texts.{face_notes}
use Rattle.obj_fit.proofs.TextLaws.{added_three}
use Rattle.obj_fit.proofs.changes.add_face_notes.Goals as goal

pub returns : goal.returns
unfolding face_notes
returns c =
    added_three _ _ _ _ _ _ _ c.in_ok-add_line_notes.ensures c.in_ok-add_welded.ensures
    c.in_ok-add_dropped.ensures
