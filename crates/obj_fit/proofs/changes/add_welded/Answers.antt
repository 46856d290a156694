use Rattle.std.specs.Prelude.{codes}
use Rattle.std.proofs.lemmas.Bool.{ne_eqb}
use Rattle.obj_fit.specs.Texts.{counted, rounding_text, welded_line}
use Rattle.obj_fit.proofs.TextLaws.{added_four}
use Rattle.obj_fit.proofs.changes.add_welded.Goals as goal

pub returns : goal.returns
unfolding welded_line
returns c =
    rw (ne_eqb c.args.welded 0 c.if-welded-eq0.false)
    (added_four c.args.text.now.items c.extend_from_slice.new.self.items
    c.add_counted.new.text.items c.add_rounding.new.text.items c.extend_from_slice-2.new.self.items
    (codes "prepare: ") (counted (codes "vertex welded") (codes "vertices welded") c.args.welded)
    (rounding_text c.args.rounded) (codes "\n")
    c.in_ok-extend_from_slice.ensures.items c.in_ok-add_counted.ensures
    c.in_ok-add_rounding.ensures c.in_ok-extend_from_slice-2.ensures.items)
