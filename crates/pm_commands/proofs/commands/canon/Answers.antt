use Rattle.std.proofs.Common.{None, refl}
use Rattle.std.proofs.lemmas.Result.{err_from_is_err_and}
use Rattle.pm_base.specs.Canonical.{canonical_text}
use Rattle.pm_commands.specs.declared.asked.Asked.TheVariants as asked
use Rattle.pm_commands.specs.Surface.{IsSurfaceRead}
use Rattle.pm_commands.specs.Ran.{whole_output}
use Rattle.pm_commands.proofs.OutcomeLaws.{ends_stopped, counts_stopped, ends_all, ends_part}
use Rattle.pm_commands.proofs.OutcomeLaws.{follows_done}
use Rattle.pm_commands.proofs.commands.canon.Goals as goal

pub returns-in_err-surface-clause-ends : goal.returns-in_err-surface-clause-ends
returns-in_err-surface-clause-ends g c =
    let p = err_from_is_err_and c.from_residual.result c.from_residual.ensures.1 in
    rw (p.1, p.2) (ends_stopped (asked.Canon c.args.digits) (IsSurfaceRead c.args.digits)
    (λ m. whole_output (canonical_text c.args.digits m)) (λ x. refl) (λ taken. refl)
    (λ bytes all is. is) (λ bytes all is. is) c.in_err-surface.field-0.0 _ _ _ _ _
    c.in_err-surface.ensures.err)

pub returns-in_err-surface-clause-counts : goal.returns-in_err-surface-clause-counts
returns-in_err-surface-clause-counts g c =
    let p = err_from_is_err_and c.from_residual.result c.from_residual.ensures.1 in
    rw (p.1, p.2) (counts_stopped (IsSurfaceRead c.args.digits) c.in_err-surface.field-0.0 _ _ _ _ _
    c.in_err-surface.ensures.err)

pub returns-clause-ends : goal.returns-clause-ends
returns-clause-ends g c =
    ends_all (asked.Canon c.args.digits) _ _ _
    (whole_output (canonical_text c.args.digits c.in_ok-surface.surface)) None
    (follows_done (IsSurfaceRead c.args.digits)
    (λ m. whole_output (canonical_text c.args.digits m)) _ c.in_ok-surface.surface None
    c.in_ok-surface.ensures.surface) refl
    c.in_ok-put_surface.ensures.ok

pub returns-in_err-put_surface-clause-ends : goal.returns-in_err-put_surface-clause-ends
returns-in_err-put_surface-clause-ends g c =
    let p = err_from_is_err_and c.from_residual-in_err-put_surface.result
    c.from_residual-in_err-put_surface.ensures.1 in
    rw (p.1, p.2)
    (ends_part (asked.Canon c.args.digits) _ _ _
    (whole_output (canonical_text c.args.digits c.in_ok-surface.surface))
    (follows_done (IsSurfaceRead c.args.digits)
    (λ m. whole_output (canonical_text c.args.digits m)) _ c.in_ok-surface.surface None
    c.in_ok-surface.ensures.surface)
    c.in_err-put_surface.ensures.err)

pub returns-in_err-put_surface-clause-counts : goal.returns-in_err-put_surface-clause-counts
returns-in_err-put_surface-clause-counts g c =
    let p = err_from_is_err_and c.from_residual-in_err-put_surface.result
    c.from_residual-in_err-put_surface.ensures.1 in
    rw (p.1, p.2) (c.in_ok-surface.ensures.count, c.in_err-put_surface.ensures.cause.failed)
