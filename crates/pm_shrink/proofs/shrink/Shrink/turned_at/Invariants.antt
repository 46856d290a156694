use Rattle.std.proofs.Common.{◌≡◌}
use Rattle.std.specs.List.{All}
use Rattle.pm_base.specs.Sides.{Stands}
use Rattle.pm_shrink.specs.Shrinking.{net_at, fan_at}
use Rattle.pm_shrink.specs.Walks.{KeepsUpright}
use Rattle.pm_shrink.proofs.FanLaws.{SoFar}
use Rattle.pm_shrink.proofs.shrink.Shrink.turned_at.Given as goal

-- The faces that were passed stay upright.
abbrev pub invariant-loop-number : goal.invariant-loop-number
invariant-loop-number l = record {
  passed : SoFar (KeepsUpright l.self.surface l.q l.place) (fan_at l.self l.p) l.number-iterator;
  stand : All (Stands (net_at l.self)) l.number-iterator;
  start : All (λ e. (net_at l.self).from e ≡ l.p) l.number-iterator;
}
