use Rattle.std.proofs.Common.{◌≡◌, ◌+◌, ◌≤◌, map}
use Rattle.std.specs.List.{range_with_len}
use Rattle.pm_forest.specs.Forest.{leaf_count}
use Rattle.pm_fits.specs.Fits.{number_of}
use Rattle.pm_fits.proofs.numbers.numbers_by_leaf.Given as goal

abbrev pub invariant-loop-leaf : goal.invariant-loop-leaf
invariant-loop-leaf l = record {
  numbers : l.numbers.items ≡ map (number_of l.h l.values) (range_with_len 0 l.leaf);
  spare : leaf_count l.h ≤ l.leaf + l.numbers.spare;
}
