use Rattle.std.proofs.Common.{arith}
use Rattle.pm_io.proofs.DigitLaws.{value_step}
use Rattle.pm_io.proofs.number.value_up_to.Goals as goal

pub loop-b-preserved : goal.loop-b-preserved
loop-b-preserved c = record {
  small = omega (arith, c.min-n.ensures);
  value = value_step c.args.digits.now c.loop-b.b-index c.loop-b.n c.min-n.result _ c.args.most
      c.loop-b-test.true (let e = c.min-n.ensures in let f = c.from.ensures in
      let g = c.saturating_sub.ensures in cc) c.loop-b.invariant.value;
}
