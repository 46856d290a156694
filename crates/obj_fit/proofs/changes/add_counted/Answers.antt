use Rattle.std.proofs.Common.{List, ℕ, ◌++◌, ◌∙◌, ap}
use Rattle.std.specs.Prelude.{codes}
use Rattle.std.specs.Fmt.{decimal}
use Rattle.obj_fit.specs.Texts.{named, counted}
use Rattle.obj_fit.proofs.TextLaws.{added_three}
use Rattle.obj_fit.proofs.changes.add_counted.Goals as goal

pub returns : goal.returns
unfolding counted
returns c =
    let number = c.in_ok-add_number.ensures
    ∙ ap (λ n. c.args.text.now.items ++ decimal n) c.from.ensures in
    let name = c.in_ok-extend_from_slice-2.ensures.items
    ∙ ap (λ (b : List ℕ). c.extend_from_slice.new.self.items ++ b) c.named.ensures in
    added_three c.args.text.now.items c.add_number.new.text.items
    c.extend_from_slice.new.self.items c.extend_from_slice-2.new.self.items
    (decimal c.args.n) (codes " ") (named c.args.one.now c.args.many.now c.args.n)
    number c.in_ok-extend_from_slice.ensures.items name
