use Rattle.pm_prefix.proofs.TableLaws.{AreCounts}
use Rattle.pm_prefix.proofs.begun.set_before.Given as goal

abbrev pub invariant-loop-x : goal.invariant-loop-x
invariant-loop-x l = AreCounts l.flags l.x l.set l.table.items
