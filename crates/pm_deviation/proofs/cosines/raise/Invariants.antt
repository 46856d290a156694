use Rattle.pm_deviation.proofs.CosineTables.{AreRaisedTo}
use Rattle.pm_deviation.proofs.cosines.raise.Given as goal

abbrev pub invariant-loop-v : goal.invariant-loop-v
invariant-loop-v l = AreRaisedTo l.h l.axis l.spreads l.fn.cosines.items l.cosines.items l.v
