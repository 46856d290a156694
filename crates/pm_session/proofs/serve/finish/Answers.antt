use Rattle.std.proofs.Common.{◌<◌, length, refl, arith}
use Rattle.std.proofs.lemmas.Grind.{common_steps}
use Rattle.pm_session.specs.Steps.{standing}
use Rattle.pm_session.proofs.StepLaws.{step_last}
use Rattle.pm_session.proofs.serve.finish.Goals as goal

pub returns-clause-serves : goal.returns-clause-serves
returns-clause-serves g c = λ b p left shows number ready over v.
    let some : 0 < length c.args.line.now.items = grind (arith, common_steps) in
    step_last
    (standing c.line-done.new.self p c.args.line.now.items left
    (g.K.Sink.got c.line-done.new.out)) c.line-done.result c.after_last.result v ready shows over
    refl c.as_slice.ensures.value c.line-done.ensures.ends some number c.after_last.ensures.after
