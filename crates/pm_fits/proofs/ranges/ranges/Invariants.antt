use Rattle.pm_fits.proofs.RangeLaws.{AreJoined}
use Rattle.pm_fits.proofs.ranges.ranges.Given as goal

abbrev pub invariant-loop-k : goal.invariant-loop-k
invariant-loop-k l = AreJoined l.h l.numbers l.ranges.items l.k
