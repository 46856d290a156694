use Rattle.std.proofs.Common.{◌-◌, arith}
use Rattle.std.proofs.lemmas.Nat.{one_shl}
use Rattle.float_read.proofs.FormatLaws.{pow_few}
use Rattle.float_read.proofs.format.Format.scale.Goals as goal

pub returns-clause-small : goal.returns-clause-small
returns-clause-small c =
    let k = c.args.self.exponent_bits - 1 in
    omega (arith, one_shl k 32 (omega arith), pow_few k (omega arith))
