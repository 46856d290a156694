use Rattle.std.proofs.Common.{◌≡◌, ◌+◌, ◌≤◌, map}
use Rattle.std.specs.List.{range_with_len}
use Rattle.pm_forest.specs.Forest.{leaf_count}
use Rattle.pm_fits.specs.Fits.{numbers_before}
use Rattle.pm_fits.proofs.weights.number_totals.Given as goal

abbrev pub invariant-loop-leaf : goal.invariant-loop-leaf
invariant-loop-leaf l = record {
  total : l.total ≡ numbers_before l.h l.numbers l.leaf;
  totals : l.totals.items ≡ map (numbers_before l.h l.numbers) (range_with_len 0 (l.leaf + 1));
  spare : leaf_count l.h ≤ l.leaf + l.totals.spare;
}
