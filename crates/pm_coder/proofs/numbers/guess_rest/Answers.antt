use Rattle.std.proofs.lemmas.Result.{err_from_is_err_and}
use Rattle.pm_coder.proofs.NumberLaws.{power_shifted, rest-tells, rest-untold}
use Rattle.pm_coder.proofs.numbers.guess_rest.Goals as goal

pub returns-in_err-rest-clause-cut : goal.returns-in_err-rest-clause-cut
returns-in_err-rest-clause-cut g c =
    let p = err_from_is_err_and c.from_residual.result c.from_residual.ensures.1 in
    rw (p.1, p.2)
    (λ is n from below. rest-untold g.P.Predictor c.args.predictor.now _ c.args.set
    c.args.contexts.now c.args.place _ (power_shifted c.args.place c.requires.place)
    (λ m small. c.in_err-rest.ensures.cut is m small) n from below)

pub returns-clause-ok : goal.returns-clause-ok
returns-clause-ok g c =
    rest-tells g.P.Predictor c.args.predictor.now _ _ _ c.args.set c.args.contexts.now
    c.args.place _ c.in_ok-rest.rest (power_shifted c.args.place c.requires.place)
    c.in_ok-rest.ensures.ok
