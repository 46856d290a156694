use Rattle.pm_prefix.proofs.TableLaws.{AreFlags}
use Rattle.pm_prefix.proofs.begun.first_leaves.Given as goal

abbrev pub invariant-loop-node : goal.invariant-loop-node
invariant-loop-node l = AreFlags l.forest.h l.n l.node l.flags.items
