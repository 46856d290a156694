use Rattle.std.specs.Prelude.{codes}
use Rattle.pm_base.specs.Canonical.{coordinate_text}
use Rattle.obj_prepare.specs.Back.{middle}
use Rattle.obj_fit.specs.Texts.{middle_text}
use Rattle.obj_fit.proofs.TextLaws.{added_five}
use Rattle.obj_fit.proofs.notes.add_middle.Goals as goal

pub returns : goal.returns
unfolding middle_text
returns c =
    let low = c.args.b.now.low in
    let high = c.args.b.now.high in
    added_five c.args.text.now.items c.add_x.new.text.items c.extend_from_slice.new.self.items
    c.add_y.new.text.items c.extend_from_slice-2.new.self.items c.add_z.new.text.items
    (coordinate_text 19 (middle low.x high.x)) (codes " ")
    (coordinate_text 19 (middle low.y high.y)) (codes " ")
    (coordinate_text 19 (middle low.z high.z))
    c.in_ok-add_x.ensures c.in_ok-extend_from_slice.ensures.items c.in_ok-add_y.ensures
    c.in_ok-extend_from_slice-2.ensures.items c.in_ok-add_z.ensures
