use Rattle.std.proofs.Common.{◌++◌, ◌∙◌, ap}
use Rattle.std.specs.Prelude.{codes}
use Rattle.std.specs.Fmt.{decimal}
use Rattle.std.proofs.lemmas.Bool.{ne_eqb}
use Rattle.obj_fit.specs.Texts.{rounding_text}
use Rattle.obj_fit.proofs.TextLaws.{added_three}
use Rattle.obj_fit.proofs.changes.add_rounding.Goals as goal

pub returns : goal.returns
unfolding rounding_text
returns c =
    let number = c.in_ok-add_number.ensures
    ∙ ap (λ n. c.extend_from_slice.new.self.items ++ decimal n) c.from.ensures in
    rw (ne_eqb c.args.n 0 c.if-n-eq0.false)
    (added_three c.args.text.now.items c.extend_from_slice.new.self.items
    c.add_number.new.text.items
    c.extend_from_slice-2.new.self.items (codes ", ") (decimal c.args.n)
    (codes " of them by rounding")
    c.in_ok-extend_from_slice.ensures.items number c.in_ok-extend_from_slice-2.ensures.items)
