use Rattle.std.proofs.Common.{sym, ◌∙◌, arith}
use Rattle.pm_io.proofs.DigitLaws.{unsigned_most}
use Rattle.prepare.proofs.words.asked_with.Goals as goal

pub returns-in-Some-clause-size : goal.returns-in-Some-clause-size
returns-in-Some-clause-size c = (
  omega (arith, c.if-n-ne0.true),
  unsigned_most _ _ _ (sym c.read_unsigned.ensures ∙ c.in-Some.is),
)
