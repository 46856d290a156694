use Rattle.pm_sides.specs.Tables.{AreSplitNodes}
use Rattle.pm_sides.proofs.indexed.split_nodes.Given as goal

abbrev pub invariant-loop-k : goal.invariant-loop-k
invariant-loop-k l = record {
  splits : AreSplitNodes l.h l.k l.nodes.items;
}
