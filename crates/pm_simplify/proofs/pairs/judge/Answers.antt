use Rattle.pm_simplify.proofs.PairLaws.{told}
use Rattle.pm_simplify.proofs.pairs.judge.Goals as goal

pub returns-clause-verdict : goal.returns-clause-verdict
returns-clause-verdict g c = λ p m log after goes.
    told p m log c.args.shrink.now after c.args.a c.args.b c.best-place.result.0 c.verdict.result
    (c.best-place.ensures.place p m log after goes) c.verdict.ensures
