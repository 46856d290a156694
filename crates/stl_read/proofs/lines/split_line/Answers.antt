use Rattle.std.proofs.Common.{◌∷◌, List, ℕ, sym, ◌∙◌, ap, arith}
use Rattle.std.proofs.lemmas.List.{take_rest}
use Rattle.stl_read.specs.Ascii.{texts}
use Rattle.stl_read.proofs.LineLaws.{next_text}
use Rattle.stl_read.proofs.lines.split_line.Goals as goal

pub returns : goal.returns
returns c =
    let bytes = c.args.bytes.now in
    let text = c.until-text.result.now in
    next_text bytes text c.min-end.result c.requires c.until-text.ensures.bytes
    (omega (arith, c.min-end.ensures))
    ∙ ap (λ (xs : List ℕ). text ∷ texts xs) (sym (take_rest bytes c.min-end.result))
