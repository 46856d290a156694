use Rattle.std.proofs.lemmas.Result.{err_from_is_err_and}
use Rattle.pm_commands.specs.Surface.{IsSurfaceRead}
use Rattle.pm_commands.specs.Build.{IsSimplified}
use Rattle.pm_commands.proofs.BuildLaws.{made_refused, made_stands}
use Rattle.pm_commands.proofs.build.build_hierarchy.Goals as goal

pub returns-in_err-surface-clause-err : goal.returns-in_err-surface-clause-err
returns-in_err-surface-clause-err g c =
    let p = err_from_is_err_and c.from_residual.result c.from_residual.ensures.1 in
    rw (p.1, p.2)
    (made_refused (IsSurfaceRead c.args.digits) (λ m h. IsSimplified m c.args.target h)
    c.in_err-surface.field-0.0 _ _ _ _ c.in_err-surface.ensures.err)

pub returns-clause-built : goal.returns-clause-built
returns-clause-built g c =
    made_stands (IsSurfaceRead c.args.digits) (λ m h. IsSimplified m c.args.target h) _
    c.in_ok-surface.surface
    c.in_ok-simplified.field-0 c.in_ok-surface.ensures.surface
    c.in_ok-simplified.ensures.simplified
