use Rattle.std.proofs.Common.{◌≡◌}
use Rattle.std.specs.List.{All}
use Rattle.pm_base.specs.Sides.{Stands}
use Rattle.pm_shrink.specs.Shrinking.{net_at, fan_at}
use Rattle.pm_shrink.specs.Walks.{has_two}
use Rattle.pm_shrink.proofs.FanLaws.{AreLeft}
use Rattle.pm_shrink.proofs.shrink.Shrink.face_with.Given as goal

-- What is left to see decides.
abbrev pub invariant-loop-number : goal.invariant-loop-number
invariant-loop-number l = record {
  left : AreLeft (has_two (net_at l.self) l.b l.c) (fan_at l.self l.a) l.number-iterator;
  stand : All (Stands (net_at l.self)) l.number-iterator;
  start : All (λ e. (net_at l.self).from e ≡ l.a) l.number-iterator;
}
