use Rattle.std.proofs.lemmas.Result.{err_from_is_err_and}
use Rattle.pm_coder.proofs.NumberLaws.{number-tells, number-untold}
use Rattle.pm_coder.proofs.numbers.guess_number.Goals as goal

pub returns-in_err-next-clause-cut : goal.returns-in_err-next-clause-cut
returns-in_err-next-clause-cut g c =
    let p = err_from_is_err_and c.from_residual.result c.from_residual.ensures.1 in
    rw (p.1, p.2)
    (λ is n small. number-untold g.P.Predictor c.args.predictor.now _ c.args.set
    c.args.contexts.now (λ m from below. c.in_err-next.ensures.cut is m from below) n small)

pub returns-clause-ok : goal.returns-clause-ok
returns-clause-ok g c =
    number-tells g.P.Predictor c.args.predictor.now _ _ _ c.args.set c.args.contexts.now
    c.in_ok-next.next c.in_ok-next.ensures.from c.in_ok-next.ensures.ok
