use Rattle.std.proofs.Common.{◌≡◌, nat_eq}
use Rattle.std.specs.List.{All}
use Rattle.pm_base.specs.Sides.{to, third, Stands}
use Rattle.pm_shrink.specs.Shrinking.{net_at, fan_at}
use Rattle.pm_shrink.proofs.FanLaws.{AreLeft}
use Rattle.pm_shrink.proofs.shrink.Shrink.side_to.Given as goal

-- What is left to see at either vertex decides.
abbrev pub invariant-loop-from_p : goal.invariant-loop-from_p
invariant-loop-from_p l = record {
  left_p : AreLeft (λ e. nat_eq (to (net_at l.self) e) l.q) (fan_at l.self l.p) l.at_p;
  left_q : AreLeft (λ e. nat_eq (third (net_at l.self) e) l.p) (fan_at l.self l.q) l.at_q;
  stand_p : All (Stands (net_at l.self)) l.at_p;
  stand_q : All (Stands (net_at l.self)) l.at_q;
  start_p : All (λ e. (net_at l.self).from e ≡ l.p) l.at_p;
  start_q : All (λ e. (net_at l.self).from e ≡ l.q) l.at_q;
}
