use Rattle.std.proofs.Common.{ℕ, ◌≤◌, ap, subst}
use Rattle.pm_io.specs.Bytes.{Gains}
use Rattle.pm_format.specs.Stream.{stream}
use Rattle.pm_commands.specs.Stepwise.{SteppedRun}
use Rattle.pm_commands.proofs.StepLaws.{leads_back, shown, border_shown}
use Rattle.pm_commands.proofs.stepwise.Simplifying.finish.Goals as goal

pub returns-clause-gives_back : goal.returns-clause-gives_back
returns-clause-gives_back g c border bytes of =
    let same = ap (λ (s : SteppedRun). s.digits) c.self.view_is in
    let few : c.args.self.digits ≤ 4 = subst (λ (n : ℕ). n ≤ 4) same c.self.invariant in
    let gained = subst (λ (n : ℕ).
    Gains (g.K.Sink.got c.args.out.now) (g.K.Sink.got c.put_stream.new.out)
    (stream n c.in_ok-h.h)) same c.in_ok-put_stream.ensures.ok in
    leads_back border bytes c.args.self c.in_ok-h.h few of c.in_ok-h.ensures.made _ _ gained

pub returns-clause-surfaces : goal.returns-clause-surfaces
returns-clause-surfaces g c border bytes of =
    let same = ap (λ (s : SteppedRun). s.digits) c.self.view_is in
    let few : c.args.self.digits ≤ 4 = subst (λ (n : ℕ). n ≤ 4) same c.self.invariant in
    let gained = subst (λ (n : ℕ).
    Gains (g.K.Sink.got c.args.out.now) (g.K.Sink.got c.put_stream.new.out)
    (stream n c.in_ok-h.h)) same c.in_ok-put_stream.ensures.ok in
    shown border bytes c.args.self c.in_ok-h.h few of c.in_ok-h.ensures.made _ _ gained

pub returns-clause-meets : goal.returns-clause-meets
returns-clause-meets g c bytes of =
    let same = ap (λ (s : SteppedRun). s.digits) c.self.view_is in
    let few : c.args.self.digits ≤ 4 = subst (λ (n : ℕ). n ≤ 4) same c.self.invariant in
    let gained = subst (λ (n : ℕ).
    Gains (g.K.Sink.got c.args.out.now) (g.K.Sink.got c.put_stream.new.out)
    (stream n c.in_ok-h.h)) same c.in_ok-put_stream.ensures.ok in
    border_shown bytes c.args.self c.in_ok-h.h few of c.in_ok-h.ensures.made _ _ gained
