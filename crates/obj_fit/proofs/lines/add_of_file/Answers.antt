use Rattle.obj_fit.specs.Texts.{file_notes}
use Rattle.obj_fit.proofs.TextLaws.{added_three}
use Rattle.obj_fit.proofs.lines.add_of_file.Goals as goal

pub returns : goal.returns
unfolding file_notes
returns c =
    added_three _ _ _ _ _ _ _ c.in_ok-add_note.ensures c.in_ok-add_note-2.ensures
    c.in_ok-add_note-3.ensures
