use Rattle.pm_deviation.specs.Deviations.{line_deviation_of}
use Rattle.pm_deviation.proofs.UpwardLaws.{AreUpTo}
use Rattle.pm_deviation.proofs.lines.grow.Given as goal

abbrev pub invariant-loop-k : goal.invariant-loop-k
invariant-loop-k l = AreUpTo l.h (line_deviation_of l.h) l.table.items l.k
