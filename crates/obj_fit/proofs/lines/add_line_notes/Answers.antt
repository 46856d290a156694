use Rattle.obj_fit.specs.Texts.{line_notes}
use Rattle.obj_fit.proofs.TextLaws.{added_four}
use Rattle.obj_fit.proofs.lines.add_line_notes.Goals as goal

pub returns : goal.returns
unfolding line_notes
returns c =
    added_four _ _ _ _ _ _ _ _ _ c.in_ok-add_polygons.ensures c.in_ok-add_inexact.ensures
    c.in_ok-add_rounded.ensures c.in_ok-add_passed.ensures
