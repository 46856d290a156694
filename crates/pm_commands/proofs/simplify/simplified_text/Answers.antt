use Rattle.std.proofs.lemmas.Result.{err_from_is_err_and}
use Rattle.pm_commands.specs.Surface.{IsSurfaceGiven}
use Rattle.pm_commands.specs.Simplified.{IsSimplifiedWith}
use Rattle.pm_commands.proofs.BuildLaws.{made_refused, made_stands}
use Rattle.pm_commands.proofs.GivenLaws.{given_was_read}
use Rattle.pm_commands.proofs.simplify.simplified_text.Goals as goal

pub returns-in_err-surface-clause-err : goal.returns-in_err-surface-clause-err
returns-in_err-surface-clause-err g c =
    let p = err_from_is_err_and c.from_residual.result c.from_residual.ensures.1 in
    rw (p.1, p.2) (made_refused (IsSurfaceGiven c.args.digits)
    (λ m h. IsSimplifiedWith c.args.border m c.args.target h) c.in_err-surface.field-0.0 _ _ _ _
    c.in_err-surface.ensures.err)

pub returns-clause-made : goal.returns-clause-made
returns-clause-made g c =
    made_stands (IsSurfaceGiven c.args.digits)
    (λ m h. IsSimplifiedWith c.args.border m c.args.target h) _ c.in_ok-surface.surface
    c.in_ok-simplified_with.field-0 c.in_ok-surface.ensures.surface
    c.in_ok-simplified_with.ensures.simplified

pub returns-clause-mesh : goal.returns-clause-mesh
returns-clause-mesh g c =
    given_was_read c.args.digits _ c.in_ok-surface.surface _ c.in_ok-simplified_with.ensures.mesh
    c.in_ok-surface.ensures.surface
