use Rattle.std.proofs.Common.{◌≡◌, ◌+◌, ◌<◌}
use Rattle.pm_base.specs.Sides.{side_count, net_of, around}
use Rattle.pm_base.proofs.Walks.{after_steps, IsTrail}
use Rattle.pm_twins.proofs.half_edges.HalfEdges.is_fan.Given as goal

abbrev pub invariant-loop-step : goal.invariant-loop-step
invariant-loop-step l = record {
  in_range : l.at.0 < side_count (net_of l.self);
  at : l.at.0 ≡ after_steps (around (net_of l.self)) l.start.0 l._step;
  passed : l.passed ≡ l._step + 1;
  trail : IsTrail (around (net_of l.self)) l.start.0 l._step;
}
