use Rattle.obj_fit.specs.Texts.{turn_notes}
use Rattle.obj_fit.proofs.TextLaws.{added_four}
use Rattle.obj_fit.proofs.changes.add_turn_notes.Goals as goal

pub returns : goal.returns
unfolding turn_notes
returns c = added_four _ _ _ _ _ _ _ _ _ c.in_ok-add_note.ensures c.in_ok-add_note-2.ensures
    c.in_ok-add_note-3.ensures c.in_ok-add_inward.ensures
