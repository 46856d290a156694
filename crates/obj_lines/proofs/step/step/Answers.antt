use Rattle.std.proofs.Common.{ℕ, List, Option, subst, arith}
use Rattle.std.proofs.lemmas.Result.{err_from_is_err_and}
use Rattle.obj_lines.specs.Feeding.{open_line}
use Rattle.obj_lines.specs.Reading.{StandsAt, so_far}
use Rattle.obj_lines.proofs.StepLaws.{failed}
use Rattle.obj_lines.proofs.step.step.Goals as goal

pub returns-in-Err-clause-err : goal.returns-in-Err-clause-err
returns-in-Err-clause-err g c = λ h all stands.
    failed all _ _ c.args.taker.now _ _ stands c.in-Err.ensures.empty c.in-Err.ensures.left
    c.requires.between.clean c.requires.between.short
    (omega (arith, c.requires.between.at, c.requires.between.room))

pub returns-in_err-used-in-Ok-clause-err : goal.returns-in_err-used-in-Ok-clause-err
returns-in_err-used-in-Ok-clause-err g c =
    let p = err_from_is_err_and c.from_residual.result c.from_residual.ensures.1 in
    rw (p.1, p.2) (λ h whole stands. c.in_err-used-in-Ok.ensures.err h whole _ _
    (subst (λ (o : Option (List ℕ)). StandsAt g.R.LineReader.rules h whole o
    (so_far c.args.progress.now (g.R.LineReader.held c.args.reader.now))
    (open_line c.args.lines.now)) c.in-Ok.ensures.ok stands))
