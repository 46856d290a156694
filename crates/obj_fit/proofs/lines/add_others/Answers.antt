use Rattle.std.proofs.Common.{◌++◌, ◌∙◌, ap}
use Rattle.std.specs.Prelude.{codes}
use Rattle.std.specs.Fmt.{decimal}
use Rattle.std.proofs.lemmas.Bool.{ne_eqb}
use Rattle.obj_fit.specs.Texts.{counted, others_line}
use Rattle.obj_fit.proofs.TextLaws.{added_five}
use Rattle.obj_fit.proofs.lines.add_others.Goals as goal

pub returns : goal.returns
unfolding others_line
returns c =
    let line = c.in_ok-add_number.ensures
    ∙ ap (λ n. c.extend_from_slice-2.new.self.items ++ decimal n) c.from.ensures in
    rw (ne_eqb c.args.n 0 c.if-n-eq0.false)
    (added_five c.args.text.now.items c.extend_from_slice.new.self.items
    c.add_counted.new.text.items c.extend_from_slice-2.new.self.items
    c.add_number.new.text.items c.extend_from_slice-3.new.self.items
    (codes "prepare: ") (counted (codes "unknown line") (codes "unknown lines") c.args.n)
    (codes " ignored, the first is line ") (decimal c.args.first) (codes "\n")
    c.in_ok-extend_from_slice.ensures.items c.in_ok-add_counted.ensures
    c.in_ok-extend_from_slice-2.ensures.items line c.in_ok-extend_from_slice-3.ensures.items)
