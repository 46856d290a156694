use Rattle.std.proofs.Common.{◌≡◌}
use Rattle.pm_base.specs.Sides.{Stands}
use Rattle.pm_shrink.specs.Shrinking.{net_at}
use Rattle.pm_shrink.proofs.shrink.Shrink.turned_along.Given as goal

-- The walk stands at a corner of the same vertex.
abbrev pub invariant-loop : goal.invariant-loop
invariant-loop l = record {
  stands : Stands (net_at l.self) l.corner.0;
  same : (net_at l.self).from l.corner.0 ≡ (net_at l.self).from l.fn.from.0;
}
