use Rattle.std.proofs.Common.{arith}
use Rattle.pm_fine.proofs.RootLaws.{root_is}
use Rattle.pm_fine.proofs.FineLaws.{square_small, squares_below}
use Rattle.pm_fine.proofs.SumsBounds.{sums_small}
use Rattle.pm_fine.proofs.limits.fine_values_fit.Goals as goal

pub returns : goal.returns
returns c = record {
  plane = λ f p h k. omega (arith, square_small f p h k);
  quadric = squares_below;
  sums = sums_small;
  roots = root_is;
}
