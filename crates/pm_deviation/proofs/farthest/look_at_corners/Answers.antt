use Rattle.std.proofs.Common.{ap, ◌∙◌}
use Rattle.pm_deviation.specs.Farthest.{face_box}
use Rattle.pm_deviation.proofs.FarthestLaws.{looked_none, looked_more}
use Rattle.pm_deviation.proofs.farthest.look_at_corners.Goals as goal

pub loop-number-init : goal.loop-number-init
loop-number-init c = looked_none c.args.h.now c.args.table.now.items c.requires.zeros

pub loop-number-preserved : goal.loop-number-preserved
loop-number-preserved c =
    let h = c.args.h.now in
    looked_more h c.loop-number.number c.leaf_at.result c.face_box-parts.result
    c.loop-number.table.items c.raise_above.new.table.items c.leaf_at.ensures.leaf
    (c.face_box-parts.ensures.value ∙ ap (face_box h) c.face.ensures) c.loop-number.invariant
    c.raise_above.ensures.len c.raise_above.ensures.small c.raise_above.ensures.raised
