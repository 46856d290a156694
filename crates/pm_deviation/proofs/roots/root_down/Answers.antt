use Rattle.std.proofs.Common.{arith}
use Rattle.pm_deviation.proofs.RootLaws.{root_down_only}
use Rattle.pm_deviation.proofs.roots.root_down.Goals as goal

pub returns-in-Ok-clause-value : goal.returns-in-Ok-clause-value
returns-in-Ok-clause-value c =
    root_down_only c.args.n c.isqrt.result
    (omega (arith, c.isqrt.ensures.square_le, c.in-Ok.ensures))
    (omega (arith, c.isqrt.ensures.next_square_gt, c.in-Ok.ensures))

pub returns-in-Err-clause-value : goal.returns-in-Err-clause-value
returns-in-Err-clause-value c =
    root_down_only c.args.n c.isqrt-in-Err.result c.isqrt-in-Err.ensures.square_le
    c.isqrt-in-Err.ensures.next_square_gt
