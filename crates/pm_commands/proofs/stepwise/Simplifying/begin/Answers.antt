use Rattle.std.proofs.lemmas.Result.{err_from_is_err_and}
use Rattle.pm_commands.specs.Surface.{IsSurfaceGiven}
use Rattle.pm_commands.specs.Simplified.{IsSimplifiedWith}
use Rattle.pm_commands.proofs.BuildLaws.{made_refused}
use Rattle.pm_commands.proofs.StepLaws.{begun}
use Rattle.pm_commands.proofs.stepwise.Simplifying.begin.Goals as goal

pub returns-in_err-surface-clause-err : goal.returns-in_err-surface-clause-err
returns-in_err-surface-clause-err g c =
    let p = err_from_is_err_and c.from_residual.result c.from_residual.ensures.1 in
    rw (p.1, p.2) (made_refused (IsSurfaceGiven c.args.digits)
    (λ m h. IsSimplifiedWith c.args.border m c.args.target h) c.in_err-surface.field-0.0 _ _ _ _
    c.in_err-surface.ensures.err)

pub returns-clause-begun : goal.returns-clause-begun
returns-clause-begun g c =
    begun c.args.border c.args.target c.args.digits (g.S.Source.left c.args.input.now)
    c.in_ok-surface.surface c.in_ok-kept.kept.items c.in_ok-run.run' c.in_ok-run.ensures
    c.in_ok-surface.ensures.surface c.in_ok-kept.ensures.keeps
