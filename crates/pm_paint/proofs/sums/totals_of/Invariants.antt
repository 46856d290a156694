use Rattle.std.proofs.Common.{◌≡◌, ◌+◌, ◌*◌, ◌≤◌, map}
use Rattle.std.specs.List.{range_with_len}
use Rattle.pm_forest.specs.Forest.{leaf_count}
use Rattle.pm_paint.specs.Means.{total_before}
use Rattle.pm_paint.proofs.sums.totals_of.Given as goal

abbrev pub invariant-loop-leaf : goal.invariant-loop-leaf
invariant-loop-leaf l = record {
  total : l.total ≡ total_before l.h l.values l.leaf;
  totals : l.totals.items ≡ map (total_before l.h l.values) (range_with_len 0 (l.leaf + 1));
  spare : leaf_count l.h ≤ l.leaf + l.totals.spare;
  most : l.total ≤ 8796093022208 * l.leaf;
}
