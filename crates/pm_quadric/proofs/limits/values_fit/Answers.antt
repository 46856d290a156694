use Rattle.pm_quadric.proofs.PlaneBounds.{square_small, squares_small, squares_below}
use Rattle.pm_quadric.proofs.SumsBounds.{sums_small}
use Rattle.pm_quadric.proofs.limits.values_fit.Goals as goal

pub returns : goal.returns
returns c = record {
  plane = square_small;
  planes = squares_small;
  quadric = squares_below;
  sums = sums_small;
}
