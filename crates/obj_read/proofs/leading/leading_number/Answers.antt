use Rattle.std.proofs.Common.{◌∙◌, sym, arith}
use Rattle.obj_read.proofs.LeadingLaws.{number_step}
use Rattle.obj_read.proofs.leading.leading_number.Goals as goal

pub loop-digit-preserved : goal.loop-digit-preserved
loop-digit-preserved c = record {
  small = omega (arith, c.min-n.ensures);
  number = number_step c.loop-digit.rest.now c.in-Some.after.now c.loop-digit.n c.in-Some.digit
      c.min-n.result c.args.most c.in-Some.ensures.some c.min-n.ensures
      ∙ c.loop-digit.invariant.number;
  rest = sym c.in-Some.ensures.rest ∙ c.loop-digit.invariant.rest;
}
