use Rattle.std.proofs.Common.{ℕ, ◌*◌, ◌++◌, pos, ◌∙◌, ap}
use Rattle.std.specs.Prelude.{codes}
use Rattle.std.specs.Fmt.{decimal}
use Rattle.pm_base.specs.Canonical.{coordinate_text}
use Rattle.obj_prepare.specs.Boxes.{extent}
use Rattle.obj_fit.specs.Texts.{scale_text}
use Rattle.obj_fit.proofs.TextLaws.{added_five}
use Rattle.obj_fit.proofs.notes.add_scale.Goals as goal

pub returns : goal.returns
unfolding scale_text
returns c =
    let length =
    c.in_ok-add_length.ensures
    ∙ ap (λ (n : ℕ). c.extend_from_slice.new.self.items ++ coordinate_text 18 (pos n))
    c.extent.ensures.value in
    let number =
    c.in_ok-add_number.ensures
    ∙ ap (λ (n : ℕ). c.extend_from_slice-2.new.self.items ++ decimal (2 * n)) c.from.ensures in
    added_five c.args.text.now.items c.extend_from_slice.new.self.items c.add_length.new.text.items
    c.extend_from_slice-2.new.self.items c.add_number.new.text.items
    c.extend_from_slice-3.new.self.items
    (codes "coordinate = ") (coordinate_text 18 (pos (extent c.args.b.now))) (codes " / ")
    (decimal (2 * c.args.size)) (codes " * place + (")
    c.in_ok-extend_from_slice.ensures.items length c.in_ok-extend_from_slice-2.ensures.items number
    c.in_ok-extend_from_slice-3.ensures.items
