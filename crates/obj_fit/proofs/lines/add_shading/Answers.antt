use Rattle.obj_fit.specs.Texts.{shading_notes}
use Rattle.obj_fit.proofs.TextLaws.{added_five}
use Rattle.obj_fit.proofs.lines.add_shading.Goals as goal

pub returns : goal.returns
unfolding shading_notes
returns c =
    added_five _ _ _ _ _ _ _ _ _ _ _ c.in_ok-add_note.ensures c.in_ok-add_note-2.ensures
    c.in_ok-add_note-3.ensures c.in_ok-add_note-4.ensures c.in_ok-add_note-5.ensures
