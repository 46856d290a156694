use Rattle.std.proofs.Common.{subst}
use Rattle.pm_session.specs.Script.{line_deed}
use Rattle.pm_session.specs.Session.{LineEnds, Shown, state_of}
use Rattle.pm_session.proofs.PieceLaws.{held_after_flush}
use Rattle.pm_session.proofs.session.Session.line_through.Goals as goal

pub returns-in-Ok-clause-ends : goal.returns-in-Ok-clause-ends
returns-in-Ok-clause-ends g c =
    held_after_flush _ c.line.result _ _ _ (g.K.Sink.got c.flush.new.out) _ _ _
    c.in-Ok.ensures.puts.ok c.flush.ensures.empty
    (subst
    (λ (s : Shown). LineEnds (line_deed s.h s.grammar (state_of s) c.args.text.now) c.line.result
    (state_of s) (state_of c.line.new.self) (g.K.Sink.got c.flush.new.out)
    (g.K.Sink.got c.line.new.out)) (c.short_reply.ensures.none c.if-short_reply.false)
    c.line.ensures.ends)
