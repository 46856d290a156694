use Rattle.std.proofs.Common.{Ok, drop, subst}
use Rattle.std.specs.Io.KnownBytes.{prepend_known}
use Rattle.pm_session.specs.Holding.{HoldingSteps, holding_at, underway}
use Rattle.pm_session.proofs.PieceLaws.{still_shows}
use Rattle.pm_session.proofs.serve.do_lines.Goals as goal

pub returns-in-Err-clause-serves : goal.returns-in-Err-clause-serves
returns-in-Err-clause-serves g c = λ b f left shows v.
    c.in-Err.ensures.serves b f left
    (still_shows shows c.loop-used.invariant.hierarchy c.loop-used.invariant.grammar)
    (c.loop-used.invariant.serves b f left shows v)

pub returns-in-Ok-false-clause-serves : goal.returns-in-Ok-false-clause-serves
returns-in-Ok-false-clause-serves g c = λ b f left shows v.
    let n = c.step.new in
    let rest = drop n.used c.args.piece.now in
    subst (λ more. HoldingSteps b f
    (holding_at n.session n.at n.line.items (prepend_known rest left) (g.K.Sink.got n.out) n.page)
    (underway (g.K.Sink.got n.out) n.page rest) (Ok more)) c.in-Ok-false.field-0-test
    (c.in-Ok-false.ensures.serves b f left
    (still_shows shows c.loop-used.invariant.hierarchy c.loop-used.invariant.grammar)
    (c.loop-used.invariant.serves b f left shows v))

pub returns-clause-serves : goal.returns-clause-serves
returns-clause-serves g c = λ b f left shows v. c.loop-used.invariant.serves b f left shows v
