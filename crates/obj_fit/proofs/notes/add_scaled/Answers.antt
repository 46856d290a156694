use Rattle.std.specs.Prelude.{codes}
use Rattle.obj_prepare.specs.Back.{way_back_of}
use Rattle.obj_fit.specs.Texts.{way_text, within_text}
use Rattle.obj_fit.proofs.TextLaws.{added_three}
use Rattle.obj_fit.proofs.notes.add_scaled.Goals as goal

pub returns : goal.returns
returns c =
    added_three c.args.text.now.items c.extend_from_slice.new.self.items
    c.add_way_back.new.text.items c.add_within.new.text.items
    (codes "prepare: ") (way_text (way_back_of c.args.size c.args.b.now))
    (within_text (way_back_of c.args.size c.args.b.now))
    c.in_ok-extend_from_slice.ensures.items c.in_ok-add_way_back.ensures c.in_ok-add_within.ensures
