use Rattle.std.proofs.Common.{◌≡◌, ◌+◌, ◌≤◌, map}
use Rattle.std.specs.List.{range_with_len}
use Rattle.pm_forest.specs.Forest.{node_count}
use Rattle.pm_paint.specs.Means.{mean_of}
use Rattle.pm_paint.proofs.means.means_of_numbers.Given as goal

abbrev pub invariant-loop-node : goal.invariant-loop-node
invariant-loop-node l = record {
  means : l.means.items ≡ map (mean_of l.h l.values) (range_with_len 0 l.node);
  spare : node_count l.h ≤ l.node + l.means.spare;
}
