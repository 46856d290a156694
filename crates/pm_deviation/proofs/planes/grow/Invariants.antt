use Rattle.pm_deviation.specs.Deviations.{plane_deviation_of}
use Rattle.pm_deviation.proofs.UpwardLaws.{AreUpTo}
use Rattle.pm_deviation.proofs.planes.grow.Given as goal

abbrev pub invariant-loop-k : goal.invariant-loop-k
invariant-loop-k l = AreUpTo l.h (plane_deviation_of l.h) l.table.items l.k
