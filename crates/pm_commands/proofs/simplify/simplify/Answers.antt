use Rattle.std.proofs.Common.{None, IfSome, Ok, refl, subst}
use Rattle.std.proofs.lemmas.Result.{err_from_is_err_and}
use Rattle.pm_format.specs.Stream.{stream}
use Rattle.pm_commands.specs.declared.asked.Border.{Border}
use Rattle.pm_commands.specs.declared.asked.Asked.TheVariants as asked
use Rattle.pm_commands.specs.Simplified.{IsSimplifiedText}
use Rattle.pm_commands.specs.Ran.{whole_output}
use Rattle.pm_commands.proofs.OutcomeLaws.{ends_stopped, counts_stopped, ends_all, ends_part}
use Rattle.pm_commands.proofs.OutcomeLaws.{follows_done}
use Rattle.pm_commands.proofs.BuildLaws.{gives_back}
use Rattle.pm_commands.proofs.FrameLaws.{shows_surfaces}
use Rattle.pm_commands.proofs.BorderLaws.{shows_border}
use Rattle.pm_commands.proofs.simplify.simplify.Goals as goal

pub returns-in_err-h-clause-ends : goal.returns-in_err-h-clause-ends
returns-in_err-h-clause-ends g c =
    let p = err_from_is_err_and c.from_residual.result c.from_residual.ensures.1 in
    rw (p.1, p.2) (ends_stopped (asked.Simplify c.args.target c.args.digits c.args.border)
    (IsSimplifiedText c.args.border c.args.target c.args.digits)
    (λ h. whole_output (stream c.args.digits h)) (λ x. refl) (λ taken. refl)
    (λ bytes all is. is) (λ bytes all is. is) c.in_err-h.field-0.0 _ _ _ _ _
    c.in_err-h.ensures.err)

pub returns-in_err-h-clause-counts : goal.returns-in_err-h-clause-counts
returns-in_err-h-clause-counts g c =
    let p = err_from_is_err_and c.from_residual.result c.from_residual.ensures.1 in
    rw (p.1, p.2) (counts_stopped (IsSimplifiedText c.args.border c.args.target c.args.digits)
    c.in_err-h.field-0.0 _ _ _ _ _ c.in_err-h.ensures.err)

pub returns-clause-ends : goal.returns-clause-ends
returns-clause-ends g c =
    ends_all (asked.Simplify c.args.target c.args.digits c.args.border) _ _ _
    (whole_output (stream c.args.digits c.in_ok-h.h)) None
    (follows_done (IsSimplifiedText c.args.border c.args.target c.args.digits)
    (λ h. whole_output (stream c.args.digits h)) _ c.in_ok-h.h None c.in_ok-h.ensures.made) refl
    c.in_ok-put_stream.ensures.ok

pub returns-clause-gives_back : goal.returns-clause-gives_back
returns-clause-gives_back g c =
    gives_back (asked.Simplify c.args.target c.args.digits c.args.border) _ _ _ c.in_ok-h.h
    c.requires.few
    (follows_done (IsSimplifiedText c.args.border c.args.target c.args.digits)
    (λ h. whole_output (stream c.args.digits h)) _ c.in_ok-h.h None c.in_ok-h.ensures.made)
    c.in_ok-h.ensures.mesh c.in_ok-h.ensures.firm.valid c.in_ok-put_stream.ensures.ok

pub returns-clause-surfaces : goal.returns-clause-surfaces
returns-clause-surfaces g c =
    shows_surfaces (IsSimplifiedText c.args.border c.args.target c.args.digits) c.args.digits _ _ _
    c.in_ok-h.h c.in_ok-h.ensures.made c.requires.few c.in_ok-h.ensures.firm
    c.in_ok-put_stream.ensures.ok

pub returns-in_err-put_stream-clause-ends : goal.returns-in_err-put_stream-clause-ends
returns-in_err-put_stream-clause-ends g c =
    let p = err_from_is_err_and c.from_residual-in_err-put_stream.result
    c.from_residual-in_err-put_stream.ensures.1 in
    rw (p.1, p.2)
    (ends_part (asked.Simplify c.args.target c.args.digits c.args.border) _ _ _
    (whole_output (stream c.args.digits c.in_ok-h.h))
    (follows_done (IsSimplifiedText c.args.border c.args.target c.args.digits)
    (λ h. whole_output (stream c.args.digits h)) _ c.in_ok-h.h None c.in_ok-h.ensures.made)
    c.in_err-put_stream.ensures.err)

pub returns-clause-meets : goal.returns-clause-meets
returns-clause-meets g c = λ kept.
    shows_border c.args.target c.args.digits _ _ _ c.in_ok-h.h
    (subst (λ (b : Border). IfSome (g.S.Source.left c.args.input.now)
    (λ bytes. IsSimplifiedText b c.args.target c.args.digits bytes (Ok c.in_ok-h.h) None)) kept
    c.in_ok-h.ensures.made)
    c.requires.few c.in_ok-h.ensures.firm c.in_ok-put_stream.ensures.ok

pub returns-in_err-put_stream-clause-counts : goal.returns-in_err-put_stream-clause-counts
returns-in_err-put_stream-clause-counts g c =
    let p = err_from_is_err_and c.from_residual-in_err-put_stream.result
    c.from_residual-in_err-put_stream.ensures.1 in
    rw (p.1, p.2) (c.in_ok-h.ensures.count, c.in_err-put_stream.ensures.cause.failed)
