use Rattle.std.specs.List.{All}
use Rattle.pm_base.specs.Sides.{Stands}
use Rattle.pm_shrink.specs.Shrinking.{net_at, fan_at}
use Rattle.pm_shrink.specs.Walks.{holds_vertex}
use Rattle.pm_shrink.proofs.FanLaws.{AreLeft}
use Rattle.pm_shrink.proofs.shrink.Shrink.is_joined_at_either.Given as goal

-- What is left to see at either vertex decides.
abbrev pub invariant-loop-from_v : goal.invariant-loop-from_v
invariant-loop-from_v l = record {
  left_v : AreLeft (holds_vertex (net_at l.self) l.w) (fan_at l.self l.v) l.at_v;
  left_w : AreLeft (holds_vertex (net_at l.self) l.v) (fan_at l.self l.w) l.at_w;
  stand_v : All (Stands (net_at l.self)) l.at_v;
  stand_w : All (Stands (net_at l.self)) l.at_w;
}
