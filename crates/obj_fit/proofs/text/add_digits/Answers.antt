use Rattle.std.proofs.Common.{ℕ, List, ◌-◌, ◌++◌, ◌∙◌, ap, arith}
use Rattle.pm_base.specs.Canonical.{last_digits}
use Rattle.obj_fit.proofs.TextLaws.{digit_added}
use Rattle.obj_fit.proofs.text.add_digits.Goals as goal

pub loop-left-preserved : goal.loop-left-preserved
loop-left-preserved c = record {
  few = omega (arith, c.loop-left.invariant.few);
  unit = c.tenth-unit.ensures.value;
  text =
      ap (λ (t : List ℕ). t ++ last_digits (c.loop-left.left - 1) c.args.n)
      c.in_ok-push.ensures.items
      ∙ digit_added c.loop-left.text.items _ c.loop-left.left c.args.n c.tenth-unit.result
      (omega (arith, c.loop-left-test.true)) c.tenth-unit.ensures.value
      c.loop-left.invariant.text;
}
