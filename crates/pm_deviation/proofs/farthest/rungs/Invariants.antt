use Rattle.pm_deviation.specs.Farthest.{AreRungs}
use Rattle.pm_deviation.proofs.farthest.rungs.Given as goal

abbrev pub invariant-loop-node : goal.invariant-loop-node
invariant-loop-node l = AreRungs l.h l.node l.rungs.items
