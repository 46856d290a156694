use Rattle.std.proofs.Common.{ℕ, ◌++◌, ◌∙◌, ap}
use Rattle.std.specs.Prelude.{codes}
use Rattle.std.specs.Fmt.{decimal}
use Rattle.obj_fit.specs.Texts.{in_out_text}
use Rattle.obj_fit.proofs.TextLaws.{added_five}
use Rattle.obj_fit.proofs.account.add_in_out.Goals as goal

pub returns : goal.returns
unfolding in_out_text
returns c =
    let first = c.in_ok-add_number.ensures
    ∙ ap (λ (n : ℕ). c.extend_from_slice.new.self.items ++ decimal n) c.from.ensures in
    let second = c.in_ok-add_number-2.ensures
    ∙ ap (λ (n : ℕ). c.extend_from_slice-2.new.self.items ++ decimal n) c.from-2.ensures in
    added_five c.args.text.now.items c.extend_from_slice.new.self.items
    c.add_number.new.text.items c.extend_from_slice-2.new.self.items
    c.add_number-2.new.text.items c.extend_from_slice-3.new.self.items
    c.args.what.now (decimal c.args.n) (codes " in, ") (decimal c.args.m) (codes " out")
    c.in_ok-extend_from_slice.ensures.items first c.in_ok-extend_from_slice-2.ensures.items second
    c.in_ok-extend_from_slice-3.ensures.items
