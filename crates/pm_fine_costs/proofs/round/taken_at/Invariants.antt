use Rattle.std.proofs.Common.{◌≡◌, true, length}
use Rattle.std.specs.Option.{IfSome}
use Rattle.pm_links.specs.Lists.{has}
use Rattle.pm_quadric.specs.Sums.{plus_sums}
use Rattle.pm_fine.specs.Normals.{doubled}
use Rattle.pm_shrink.specs.Shrinking.{fan_at}
use Rattle.pm_simplify.specs.Walks.{still}
use Rattle.pm_fine_costs.specs.FinePolicy.{corner_planes}
use Rattle.pm_fine_costs.proofs.PlaneSums.{total}
use Rattle.pm_fine_costs.proofs.round.taken_at.Given as goal

abbrev pub invariant-loop-at : goal.invariant-loop-at
invariant-loop-at l = record {
  held : IfSome l.at (λ c. has (fan_at l.shrink l.v) c.0 ≡ true);
  sum : plus_sums l.quadric
      (total (corner_planes doubled l.shrink.surface l.v) (still l.at (fan_at l.shrink l.v))) ≡
      total (corner_planes doubled l.shrink.surface l.v) (fan_at l.shrink l.v);
}

abbrev pub decreases-loop-at : goal.decreases-loop-at
decreases-loop-at l = length (still l.at (fan_at l.shrink l.v))
