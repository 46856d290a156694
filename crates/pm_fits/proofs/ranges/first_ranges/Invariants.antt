use Rattle.pm_fits.specs.Ranges.{AreFirst}
use Rattle.pm_fits.proofs.ranges.first_ranges.Given as goal

abbrev pub invariant-loop-node : goal.invariant-loop-node
invariant-loop-node l = AreFirst l.h l.numbers l.node l.ranges.items
