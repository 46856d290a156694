use Rattle.std.proofs.Common.{Ok, refl, subst, arith}
use Rattle.std.specs.Io.KnownBytes.{prepend_known}
use Rattle.pm_format.specs.Taking.{FeedSteps}
use Rattle.pm_format.proofs.TakeLaws.{at_start, reads_err, cut_or_on}
use Rattle.pm_format.proofs.read.feed_all.Goals as goal

pub loop-fail-init : goal.loop-fail-init
loop-fail-init g c = record {
  reading = at_start _ _ c.args.decoder.now refl c.requires.fresh;
  most = omega (arith, c.requires.none);
  not_ended = c.requires.not_ended;
  count = refl;
}

pub returns-in-Err-clause-err : goal.returns-in-Err-clause-err
returns-in-Err-clause-err g c =
    let whole = prepend_known c.args.taker.now (g.S.Source.left c.args.source.now) in
    let now = prepend_known c.feed_window.new.taker (g.S.Source.left c.feed_window.new.source) in
    reads_err whole now now (g.S.Source.left c.feed_window.new.source) c.feed_window.new.decoder
    c.in-Err.fail (c.in-Err.ensures.steps _ c.loop-fail.invariant.reading)

pub returns-in-Ok-false-clause-ok : goal.returns-in-Ok-false-clause-ok
returns-in-Ok-false-clause-ok g c =
    subst (λ b. FeedSteps (prepend_known c.args.taker.now (g.S.Source.left c.args.source.now))
    (prepend_known c.feed_window.new.taker (g.S.Source.left c.feed_window.new.source))
    (g.S.Source.left c.feed_window.new.source) c.feed_window.new.decoder (Ok b))
    c.in-Ok-false.field-0-test (c.in-Ok-false.ensures.steps _ c.loop-fail.invariant.reading)

pub returns-in-Ok-false-clause-not_ended : goal.returns-in-Ok-false-clause-not_ended
returns-in-Ok-false-clause-not_ended g c =
    cut_or_on _ _ _ _ _ c.loop-fail.invariant.reading
    (c.in-Ok-false.ensures.fed c.in-Ok-false.field-0-test)
