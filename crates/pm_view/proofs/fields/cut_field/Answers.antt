use Rattle.std.proofs.Common.{◌∷◌, take, sym, ap, ◌∙◌, arith}
use Rattle.std.proofs.lemmas.Bool.{eq-eqb}
use Rattle.std.proofs.lemmas.List.{take_rest}
use Rattle.pm_view.specs.Fields.{fields_after}
use Rattle.pm_view.proofs.FieldLaws.{fields_cut, fields_uncut, nothing_after}
use Rattle.pm_view.proofs.fields.cut_field.Goals as goal

pub returns-then-b-eq32 : goal.returns-then-b-eq32
returns-then-b-eq32 c =
    let text = c.args.text.now in
    fields_cut text c.loop-i.i c.loop-i-test.true c.loop-i.invariant (eq-eqb _ _ c.if-b-eq32.true)
    ∙ ap (λ rest. take c.loop-i.i text ∷ fields_after rest) (sym (take_rest text c.loop-i.i))

pub returns : goal.returns
returns c =
    let text = c.args.text.now in
    fields_uncut text (λ k below. c.loop-i.invariant k (omega arith))
    ∙ ap (λ rest. text ∷ rest) (sym (nothing_after text))
