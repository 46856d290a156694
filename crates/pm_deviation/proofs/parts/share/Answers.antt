use Rattle.std.proofs.Common.{◌≤◌, ◌*◌, ◌/◌, arith}
use Rattle.pm_deviation.proofs.CosineLaws.{quotient_most}
use Rattle.pm_deviation.proofs.PartLaws.{ceil_least}
use Rattle.pm_deviation.proofs.RootLaws.{small_part}
use Rattle.pm_deviation.proofs.parts.share.Goals as goal

pub returns-clause-small : goal.returns-clause-small
returns-clause-small c =
    let n = c.args.n in
    let high : c.div_ceil.result ≤ 16384 =
    omega (
      arith,
      c.div_ceil.ensures,
      ceil_least (16384 * n) c.args.short 16384 c.requires.some
          (omega (arith, c.requires.part)),
    ) in (
      small_part (16384 * n / c.args.long)
          (quotient_most n c.args.long (omega (arith, c.requires.part, c.requires.order))),
      small_part c.div_ceil.result high,
    )
