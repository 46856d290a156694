use Rattle.std.specs.Prelude.{codes}
use Rattle.std.proofs.lemmas.Bool.{ne_eqb}
use Rattle.obj_fit.specs.Texts.{apart_line}
use Rattle.obj_fit.proofs.TextLaws.{added_two}
use Rattle.obj_fit.proofs.changes.add_apart.Goals as goal

pub returns : goal.returns
unfolding apart_line
returns c =
    rw (ne_eqb c.args.split 0 c.if-split-eq0.false)
    (added_two c.args.text.now.items c.extend_from_slice.new.self.items
    c.extend_from_slice-2.new.self.items
    (codes "prepare: what was cut can come apart at coarser levels: ")
    (codes "simplify --keep-border holds the border\n")
    c.in_ok-extend_from_slice.ensures.items c.in_ok-extend_from_slice-2.ensures.items)
