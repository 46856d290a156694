use Rattle.pm_ears.specs.Counted.{AreCounted}
use Rattle.pm_ears.proofs.counted.counts.Given as goal

abbrev pub invariant-loop-i : goal.invariant-loop-i
invariant-loop-i l = AreCounted l.left l.i l.inside.items
