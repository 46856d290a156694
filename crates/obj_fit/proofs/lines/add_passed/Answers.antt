use Rattle.obj_fit.specs.Texts.{passed_notes}
use Rattle.obj_fit.proofs.TextLaws.{added_three}
use Rattle.obj_fit.proofs.lines.add_passed.Goals as goal

pub returns : goal.returns
unfolding passed_notes
returns c =
    added_three _ _ _ _ _ _ _ c.in_ok-add_shading.ensures c.in_ok-add_beside.ensures
    c.in_ok-add_of_file.ensures
