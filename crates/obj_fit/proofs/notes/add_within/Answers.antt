use Rattle.std.proofs.Common.{◌≡◌, ℕ, ◌+◌, ◌-◌, ◌*◌, ◌/◌, ◌++◌, ◌∙◌, pos, ap, arith}
use Rattle.std.specs.Prelude.{codes}
use Rattle.pm_base.specs.Canonical.{coordinate_text}
use Rattle.obj_prepare.specs.Boxes.{extent}
use Rattle.obj_prepare.specs.Back.{way_back_of, within_of}
use Rattle.obj_fit.specs.Texts.{within_text}
use Rattle.obj_fit.proofs.TextLaws.{added_three}
use Rattle.obj_fit.proofs.notes.add_within.Goals as goal

pub returns : goal.returns
unfolding within_text
returns c =
    let parts : 4 * c.from.result ≡ 2 * (2 * c.args.size) = omega (arith, c.from.ensures) in
    let near : c.rounded_up.result ≡ within_of (way_back_of c.args.size c.args.b.now) =
    c.rounded_up.ensures.value
    ∙ ap (λ (e : ℕ). (e + 4 * c.from.result - 1) / (4 * c.from.result)) c.extent.ensures.value
    ∙ ap (λ (p : ℕ). (extent c.args.b.now + p - 1) / p) parts in
    added_three c.args.text.now.items c.extend_from_slice.new.self.items
    c.add_length.new.text.items c.extend_from_slice-2.new.self.items
    (codes "prepare: positions are within ")
    (coordinate_text 18 (pos (within_of (way_back_of c.args.size c.args.b.now))))
    (codes " of the coordinates\n")
    c.in_ok-extend_from_slice.ensures.items (c.in_ok-add_length.ensures
    ∙ ap (λ (n : ℕ). c.extend_from_slice.new.self.items ++ coordinate_text 18 (pos n)) near)
    c.in_ok-extend_from_slice-2.ensures.items
