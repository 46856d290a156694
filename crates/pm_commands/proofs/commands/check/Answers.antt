use Rattle.std.proofs.Common.{List, [], None, refl, ◌∙◌, subst}
use Rattle.std.proofs.lemmas.Result.{err_from_is_err_and}
use Rattle.pm_io.specs.Bytes.{Gains, GainsPart}
use Rattle.pm_commands.specs.declared.asked.Asked.TheVariants as asked
use Rattle.pm_commands.specs.Beginning.{IsHierarchyText}
use Rattle.pm_commands.specs.Ran.{whole_output}
use Rattle.pm_commands.specs.Outcome.{counts_line}
use Rattle.pm_commands.proofs.OutcomeLaws.{ends_stopped, counts_stopped, ends_all, ends_part}
use Rattle.pm_commands.proofs.OutcomeLaws.{follows_done}
use Rattle.pm_commands.proofs.commands.check.Goals as goal

pub returns-in_err-stream-clause-ends : goal.returns-in_err-stream-clause-ends
returns-in_err-stream-clause-ends g c =
    let p = err_from_is_err_and c.from_residual.result c.from_residual.ensures.1 in
    rw (p.1, p.2) (ends_stopped asked.Check IsHierarchyText (λ o. whole_output (counts_line o.h))
    (λ x. refl) (λ taken. refl) (λ bytes all is. is) (λ bytes all is. is)
    c.in_err-stream.field-0.0 _ _ _ _ _ c.in_err-stream.ensures.err)

pub returns-in_err-stream-clause-counts : goal.returns-in_err-stream-clause-counts
returns-in_err-stream-clause-counts g c =
    let p = err_from_is_err_and c.from_residual.result c.from_residual.ensures.1 in
    rw (p.1, p.2)
    (counts_stopped IsHierarchyText c.in_err-stream.field-0.0 _ _ _ _ _
    c.in_err-stream.ensures.err)

pub returns-clause-ends : goal.returns-clause-ends
returns-clause-ends g c =
    ends_all asked.Check _ _ _ (whole_output (counts_line c.in_ok-stream.stream.h)) None
    (follows_done IsHierarchyText (λ o. whole_output (counts_line o.h)) _
    (record { digits = c.in_ok-stream.stream.digits; h = c.in_ok-stream.stream.h; rest = [] })
    None c.in_ok-stream.ensures.read) refl
    (subst (λ (l : List _). Gains (g.K.Sink.got c.args.out.now) (g.K.Sink.got c.put_all.new.out) l)
    (c.as_slice.ensures ∙ c.counts_of-line.ensures) c.in_ok-put_all.ensures.ok)

pub returns-in_err-put_all-clause-ends : goal.returns-in_err-put_all-clause-ends
returns-in_err-put_all-clause-ends g c =
    let p = err_from_is_err_and c.from_residual-in_err-put_all.result
    c.from_residual-in_err-put_all.ensures.1 in
    rw (p.1, p.2)
    (ends_part asked.Check _ _ _ (whole_output (counts_line c.in_ok-stream.stream.h))
    (follows_done IsHierarchyText (λ o. whole_output (counts_line o.h)) _
    (record { digits = c.in_ok-stream.stream.digits; h = c.in_ok-stream.stream.h; rest = [] })
    None c.in_ok-stream.ensures.read)
    (subst (λ (l : List _). GainsPart (g.K.Sink.got c.args.out.now) (g.K.Sink.got c.put_all.new.out)
    l) (c.as_slice.ensures ∙ c.counts_of-line.ensures) c.in_err-put_all.ensures.err))

pub returns-in_err-put_all-clause-counts : goal.returns-in_err-put_all-clause-counts
returns-in_err-put_all-clause-counts g c =
    let p = err_from_is_err_and c.from_residual-in_err-put_all.result
    c.from_residual-in_err-put_all.ensures.1 in
    rw (p.1, p.2) (c.in_ok-stream.ensures.count, c.in_err-put_all.ensures.cause.failed)
