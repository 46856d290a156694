use Rattle.std.specs.List.{All}
use Rattle.pm_base.specs.Sides.{Stands}
use Rattle.pm_shrink.specs.Shrinking.{net_at, fan_at}
use Rattle.pm_shrink.specs.Walks.{holds_vertex}
use Rattle.pm_shrink.proofs.FanLaws.{AreLeft}
use Rattle.pm_shrink.proofs.shrink.Shrink.is_joined_at.Given as goal

-- What is left to see decides.
abbrev pub invariant-loop-number : goal.invariant-loop-number
invariant-loop-number l = record {
  left : AreLeft (holds_vertex (net_at l.self) l.w) (fan_at l.self l.v) l.number-iterator;
  stand : All (Stands (net_at l.self)) l.number-iterator;
}
