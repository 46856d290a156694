use Rattle.std.proofs.Common.{Ok, subst}
use Rattle.pm_pack.specs.Unpacking.{Steps}
use Rattle.pm_pack.proofs.StepLaws.{steps-fail}
use Rattle.pm_pack.proofs.reading.read_words.Goals as goal

pub loop-fail-init : goal.loop-fail-init
loop-fail-init g c = record { on = λ from code r. r; most = c.requires }

pub returns-in-Err : goal.returns-in-Err
returns-in-Err g c = λ from code r.
    steps-fail g.P.Predictor from c.read_word.new.known code _ c.read_word.new.text.items
    c.read_word.new.coder c.read_word.new.stream c.in-Err.fail
    (c.in-Err.ensures.steps from code (c.loop-fail.invariant.on from code r))

pub returns-in-Ok-false : goal.returns-in-Ok-false
returns-in-Ok-false g c = λ from code r.
    (subst (λ b. Steps g.P.Predictor from code
    (c.loop-fail.invariant.on from code r).words c.read_word.new.known c.read_word.new.coder
    c.read_word.new.stream c.read_word.new.text.items (Ok b)) c.in-Ok-false.field-0-test
    (c.in-Ok-false.ensures.steps from code (c.loop-fail.invariant.on from code r))).0

pub loop-fail-preserved : goal.loop-fail-preserved
loop-fail-preserved g c = record {
  on = λ from code r.
      let on = c.loop-fail.invariant.on from code r in
      subst (λ b. Steps g.P.Predictor from code on.words c.read_word.new.known
      c.read_word.new.coder c.read_word.new.stream c.read_word.new.text.items (Ok b))
      c.in-Ok-true.field-0-test (c.in-Ok-true.ensures.steps from code on);
  most = c.in-Ok-true.ensures.most c.in-Ok-true.field-0-test;
}
