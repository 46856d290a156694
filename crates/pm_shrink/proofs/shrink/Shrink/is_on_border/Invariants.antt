use Rattle.std.specs.List.{All}
use Rattle.pm_base.specs.Sides.{Stands}
use Rattle.pm_shrink.specs.Shrinking.{net_at, fan_at}
use Rattle.pm_shrink.specs.Walks.{is_open_corner}
use Rattle.pm_shrink.proofs.FanLaws.{AreLeft}
use Rattle.pm_shrink.proofs.shrink.Shrink.is_on_border.Given as goal

-- What is left to see decides.
abbrev pub invariant-loop-number : goal.invariant-loop-number
invariant-loop-number l = record {
  left : AreLeft (is_open_corner (net_at l.self)) (fan_at l.self l.v) l.number-iterator;
  stand : All (Stands (net_at l.self)) l.number-iterator;
}
