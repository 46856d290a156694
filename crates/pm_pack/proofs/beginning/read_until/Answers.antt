use Rattle.std.proofs.Common.{Ok, subst, sym, ◌∙◌}
use Rattle.pm_pack.specs.Unpacking.{Steps}
use Rattle.pm_pack.specs.Beginnings.{Reaches}
use Rattle.pm_pack.proofs.StepLaws.{fed-so_far}
use Rattle.pm_pack.proofs.BeginningLaws.{whole-reach, fail-reach}
use Rattle.pm_pack.proofs.beginning.read_until.Goals as goal

pub loop-n-init : goal.loop-n-init
loop-n-init g c = record { on = λ from code r. r; most = c.requires }

pub returns-then-has_records : goal.returns-then-has_records
returns-then-has_records g c = λ from code r.
    let on = c.loop-n.invariant.on from code r in (
      on.words,
      fed-so_far g.P.Predictor from _ code _ _ _ on,
      sym c.has_records.ensures ∙ c.if-has_records.true,
    )

pub returns-in-Ok-false : goal.returns-in-Ok-false
returns-in-Ok-false g c = λ from code r.
    let on = c.loop-n.invariant.on from code r in
    whole-reach g.P.Predictor from c.read_word.new.known code on.words _ _ c.args.n
    (fed-so_far g.P.Predictor from _ code _ _ _ on)
    c.invariant.ensures (sym c.has_records.ensures ∙ c.if-has_records.false)
    c.read_word.new.text.items c.read_word.new.coder c.read_word.new.stream
    (subst (λ b. Steps g.P.Predictor from code on.words c.read_word.new.known
    c.read_word.new.coder c.read_word.new.stream c.read_word.new.text.items (Ok b))
    c.in-Ok-false.field-0-test (c.in-Ok-false.ensures.steps from code on))

pub returns-in-Err : goal.returns-in-Err
returns-in-Err g c = λ from code r.
    let on = c.loop-n.invariant.on from code r in
    subst (λ q. Reaches g.P.Predictor from code c.args.n c.read_word.new.coder
    c.read_word.new.stream c.read_word.new.text.items q) (sym c.reach_after.ensures)
    (fail-reach g.P.Predictor from c.read_word.new.known code on.words _ _ c.args.n
    (fed-so_far g.P.Predictor from _ code _ _ _ on)
    c.invariant.ensures (sym c.has_records.ensures ∙ c.if-has_records.false)
    c.read_word.new.text.items c.read_word.new.coder c.read_word.new.stream c.in-Err.fail
    (c.in-Err.ensures.steps from code on))

pub loop-n-preserved : goal.loop-n-preserved
loop-n-preserved g c = record {
  on = λ from code r.
      let on = c.loop-n.invariant.on from code r in
      subst (λ b. Steps g.P.Predictor from code on.words c.read_word.new.known
      c.read_word.new.coder c.read_word.new.stream c.read_word.new.text.items (Ok b))
      c.in-Ok-true.field-0-test (c.in-Ok-true.ensures.steps from code on);
  most = c.in-Ok-true.ensures.most c.in-Ok-true.field-0-test;
}
