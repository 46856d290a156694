use Rattle.std.proofs.Common.{arith, length}
use Rattle.pm_base.proofs.Sides.{next-lt}
use Rattle.pm_fans.proofs.sides.to.Goals as goal

pub from-requires : goal.from-requires
from-requires c =
    omega (
      arith,
      next-lt (length c.args.faces.now) c.args.side.0 c.requires.in_range,
      c.next.ensures.value,
    )
