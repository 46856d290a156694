use Rattle.obj_fit.specs.Texts.{rounded_notes}
use Rattle.obj_fit.proofs.TextLaws.{added_two}
use Rattle.obj_fit.proofs.lines.add_rounded.Goals as goal

pub returns : goal.returns
unfolding rounded_notes
returns c = added_two _ _ _ _ _ c.in_ok-add_note.ensures c.in_ok-add_note-2.ensures
