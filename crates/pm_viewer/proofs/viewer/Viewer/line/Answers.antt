use Rattle.std.proofs.Common.{Some, Err, [], arith, subst}
use Rattle.pm_session.specs.declared.ending.LineFail.TheVariants as fails
use Rattle.pm_session.specs.Script.{line_deed}
use Rattle.pm_session.specs.Session.{Shown, LineEnds, state_of}
use Rattle.pm_viewer.specs.Viewing.{Viewed, live_deed, viewer_state}
use Rattle.pm_viewer.proofs.LineLaws.{line_refused, line_done}
use Rattle.pm_viewer.proofs.viewer.Viewer.line.Goals as goal

pub returns-then-text-gt-MOST_LINE-clause-ends : goal.returns-then-text-gt-MOST_LINE-clause-ends
returns-then-text-gt-MOST_LINE-clause-ends c =
    let s = c.self.inside.session.value in
    subst (λ (v : Viewed). LineEnds (live_deed v.shown.h (viewer_state v) c.args.text.now)
    (Err fails.BadLine) (viewer_state v) (state_of s) (Some []) (Some c.clear.new.self.got))
    c.self.view_is
    (line_refused s.h (state_of s) c.args.text.now c.clear.new.self (omega arith) c.clear.ensures)

pub returns-clause-ends : goal.returns-clause-ends
returns-clause-ends c =
    let s = c.self.inside.session.value in
    let n = c.line-ended.new in
    let ends = subst (λ (d : Shown). LineEnds (line_deed d.h d.grammar (state_of d)
    c.args.text.now) c.line-ended.result (state_of d) (state_of n.self) (Some
    c.clear.new.self.got) (Some n.out.got))
    c.deref_mut.ensures.value c.line-ended.ensures.ends in
    subst (λ (v : Viewed). LineEnds (live_deed v.shown.h (viewer_state v) c.args.text.now)
    c.line-ended.result (viewer_state v) (state_of n.self) (Some []) (Some n.out.got))
    c.self.view_is
    (line_done s.h s.grammar (state_of s) (state_of n.self) c.args.text.now
    c.clear.new.self n.out c.line-ended.result (omega arith) c.self.invariant.0
    c.clear.ensures ends)
