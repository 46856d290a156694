use Rattle.std.proofs.Common.{◌≡◌}
use Rattle.std.specs.List.{All}
use Rattle.pm_base.specs.Sides.{Stands}
use Rattle.pm_shrink.specs.Shrinking.{net_at, fan_at}
use Rattle.pm_shrink.specs.Walks.{HasStray}
use Rattle.pm_shrink.proofs.FanLaws.{SoFar}
use Rattle.pm_shrink.proofs.shrink.Shrink.stray.Given as goal

-- The corners that were passed have no stray.
abbrev pub invariant-loop-number : goal.invariant-loop-number
invariant-loop-number l = record {
  passed : SoFar (λ e. HasStray (net_at l.self) l.a l.b e → ⊥) (fan_at l.self l.a)
      l.number-iterator;
  stand : All (Stands (net_at l.self)) l.number-iterator;
  start : All (λ e. (net_at l.self).from e ≡ l.a) l.number-iterator;
}
