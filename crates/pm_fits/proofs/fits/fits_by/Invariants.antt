use Rattle.std.proofs.Common.{◌≡◌, ◌+◌, ◌≤◌, map}
use Rattle.std.specs.List.{range_with_len}
use Rattle.pm_forest.specs.Forest.{node_count}
use Rattle.pm_fits.specs.Fits.{fit_at}
use Rattle.pm_fits.proofs.fits.fits_by.Given as goal

abbrev pub invariant-loop-node : goal.invariant-loop-node
invariant-loop-node l = record {
  fits : l.fits.items ≡ map (fit_at l.h l.values) (range_with_len 0 l.node);
  spare : node_count l.h ≤ l.node + l.fits.spare;
}
