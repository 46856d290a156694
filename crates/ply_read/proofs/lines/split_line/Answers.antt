use Rattle.std.proofs.Common.{◌∷◌, List, ℕ, sym, ◌∙◌, ap, arith}
use Rattle.std.proofs.lemmas.List.{take_rest}
use Rattle.ply_read.specs.Lines.{lines, line_of}
use Rattle.ply_read.proofs.LineLaws.{next_line}
use Rattle.ply_read.proofs.lines.split_line.Goals as goal

pub returns : goal.returns
returns c =
    let bytes = c.args.bytes.now in
    let text = c.until-text.result.now in
    next_line bytes text c.min-end.result c.requires c.until-text.ensures.bytes
    (omega (arith, c.min-end.ensures))
    ∙ ap (λ (xs : List ℕ). line_of text xs ∷ lines xs) (sym (take_rest bytes c.min-end.result))
