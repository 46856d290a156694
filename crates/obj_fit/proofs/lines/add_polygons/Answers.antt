use Rattle.obj_fit.specs.Texts.{polygon_notes}
use Rattle.obj_fit.proofs.TextLaws.{added_two}
use Rattle.obj_fit.proofs.lines.add_polygons.Goals as goal

pub returns : goal.returns
unfolding polygon_notes
returns c =
    added_two _ _ _ _ _ c.in_ok-add_note.ensures c.in_ok-add_note-2.ensures
