use Rattle.std.specs.Prelude.{codes}
use Rattle.obj_fit.specs.Texts.{longest_text}
use Rattle.obj_fit.proofs.TextLaws.{added_two}
use Rattle.obj_fit.proofs.warning.add_warned.Goals as goal

pub returns : goal.returns
returns c =
    added_two c.args.text.now.items c.extend_from_slice.new.self.items
    c.add_longest.new.text.items
    (codes "prepare: a tenth of the triangles or more collapsed to edges: ")
    (longest_text c.args.longest)
    c.in_ok-extend_from_slice.ensures.items c.in_ok-add_longest.ensures
