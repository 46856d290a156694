use Rattle.std.proofs.Common.{◌≡◌, ℕ, List, ◌+◌, ◌++◌, ◌∙◌, ap}
use Rattle.std.specs.Prelude.{codes}
use Rattle.std.specs.Fmt.{decimal}
use Rattle.obj_fit.specs.Texts.{axis_letter, longest_text}
use Rattle.obj_fit.proofs.TextLaws.{added_seven}
use Rattle.obj_fit.proofs.warning.add_longest.Goals as goal

pub returns : goal.returns
unfolding longest_text
returns c =
    let l = c.args.longest in
    let t1 : List ℕ = c.extend_from_slice.new.self.items in
    let t2 : List ℕ = c.extend_from_slice-2.new.self.items in
    let t3 : List ℕ = c.extend_from_slice-3.new.self.items in
    let t5 : List ℕ = c.extend_from_slice-4.new.self.items in
    let letter : t2 ≡ t1 ++ axis_letter l.axis =
    c.in_ok-extend_from_slice-2.ensures.items ∙ ap (λ (b : List ℕ). t1 ++ b) c.axis_letter.ensures
    in
    let low : c.add_number.new.text.items ≡ t3 ++ decimal (l.low + 1) =
    c.in_ok-add_number.ensures ∙ ap (λ (n : ℕ). t3 ++ decimal (n + 1)) c.from.ensures in
    let high : c.add_number-2.new.text.items ≡ t5 ++ decimal (l.high + 1) =
    c.in_ok-add_number-2.ensures ∙ ap (λ (n : ℕ). t5 ++ decimal (n + 1)) c.from-2.ensures in
    added_seven c.args.text.now.items t1 t2 t3 c.add_number.new.text.items t5
    c.add_number-2.new.text.items c.extend_from_slice-5.new.self.items
    (codes "the longest axis, ") (axis_letter l.axis) (codes ", goes from vertex ")
    (decimal (l.low + 1)) (codes " to vertex ") (decimal (l.high + 1)) (codes "\n")
    c.in_ok-extend_from_slice.ensures.items letter c.in_ok-extend_from_slice-3.ensures.items low
    c.in_ok-extend_from_slice-4.ensures.items high c.in_ok-extend_from_slice-5.ensures.items
