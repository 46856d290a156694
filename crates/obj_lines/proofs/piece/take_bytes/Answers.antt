use Rattle.std.proofs.Common.{ℕ, List, sym, subst}
use Rattle.std.proofs.lemmas.List.{take_rest}
use Rattle.std.proofs.lemmas.Result.{err_from_is_err_and}
use Rattle.obj_lines.specs.Reading.{IsReading}
use Rattle.obj_lines.proofs.piece.take_bytes.Goals as goal

pub returns-in_err-at-clause-err : goal.returns-in_err-at-clause-err
returns-in_err-at-clause-err g c =
    let p = err_from_is_err_and c.from_residual.result c.from_residual.ensures.1 in
    rw (p.1, p.2) (λ h whole left now is. c.in_err-at.ensures.err h whole left now
    (subst (λ (l : List ℕ). IsReading g.R.LineReader.rules h whole l left c.loop-at.progress
    (g.R.LineReader.held c.loop-at.reader) c.loop-at.lines)
    (sym (take_rest c.args.bytes.now c.loop-at.at)) (c.loop-at.invariant.reads_on h whole left is)))
