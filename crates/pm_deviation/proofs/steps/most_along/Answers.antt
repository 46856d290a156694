use Rattle.std.proofs.Common.{arith}
use Rattle.pm_deviation.proofs.PartLaws.{ceil_least}
use Rattle.pm_deviation.proofs.steps.most_along.Goals as goal

pub returns-clause-small : goal.returns-clause-small
returns-clause-small c =
    rw c.div_ceil.ensures (ceil_least c.most.result 16384 589806 (omega arith)
    (omega (arith, c.most.ensures.small)))
