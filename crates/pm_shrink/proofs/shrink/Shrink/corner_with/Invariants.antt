use Rattle.std.proofs.Common.{◌≡◌}
use Rattle.std.specs.List.{All}
use Rattle.pm_base.specs.Sides.{Stands}
use Rattle.pm_shrink.specs.Shrinking.{net_at}
use Rattle.pm_shrink.proofs.shrink.Shrink.corner_with.Given as goal

-- Both walks are at corners of their vertices.
abbrev pub invariant-loop-from_p : goal.invariant-loop-from_p
invariant-loop-from_p l = record {
  stand_p : All (Stands (net_at l.self)) l.at_p;
  stand_q : All (Stands (net_at l.self)) l.at_q;
  start_p : All (λ e. (net_at l.self).from e ≡ l.p) l.at_p;
}
