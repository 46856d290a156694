use Rattle.std.proofs.Common.{arith}
use Rattle.std.proofs.lemmas.Nat.{one_shl}
use Rattle.float_read.proofs.FormatLaws.{pow_fits}
use Rattle.float_read.proofs.format.Format.significand.Goals as goal

pub returns-then-exponent-eq0-clause-small : goal.returns-then-exponent-eq0-clause-small
returns-then-exponent-eq0-clause-small c =
    omega (arith, c.fraction.ensures.small, pow_fits c.args.self.fraction_bits (omega arith))

pub returns-else-exponent-eq0-clause-small : goal.returns-else-exponent-eq0-clause-small
returns-else-exponent-eq0-clause-small c =
    let k = c.args.self.fraction_bits in
    omega (
      arith,
      c.fraction-else-exponent-eq0.ensures.small,
      one_shl k 64 (omega arith),
      pow_fits k (omega arith),
    )
