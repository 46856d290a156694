use Rattle.std.proofs.Common.{◌≡◌, map, filter}
use Rattle.pm_base.specs.Counts.{set_of, numbers_below}
use Rattle.pm_forest.specs.Fronts.{is_active}
use Rattle.pm_bounds.specs.Bounds.{greatest}
use Rattle.pm_deviation.specs.Deviations.{deviation_of}
use Rattle.pm_session.proofs.level.greatest_deviation.Given as goal

abbrev pub invariant-loop-node : goal.invariant-loop-node
invariant-loop-node l = record {
  most : l.most
      ≡ greatest (map (deviation_of l.front.h)
      (filter (is_active l.front.h (set_of l.front.flags)) (numbers_below l.node)));
}
