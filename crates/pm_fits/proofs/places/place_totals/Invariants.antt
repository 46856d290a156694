use Rattle.std.proofs.Common.{◌≡◌, ◌+◌, ◌≤◌, map}
use Rattle.std.specs.List.{range_with_len}
use Rattle.pm_forest.specs.Forest.{leaf_count}
use Rattle.pm_fits.specs.Fits.{places_before}
use Rattle.pm_fits.proofs.places.place_totals.Given as goal

abbrev pub invariant-loop-leaf : goal.invariant-loop-leaf
invariant-loop-leaf l = record {
  total : l.total ≡ places_before l.h l.leaf;
  totals : l.totals.items ≡ map (places_before l.h) (range_with_len 0 (l.leaf + 1));
  spare : leaf_count l.h ≤ l.leaf + l.totals.spare;
}
