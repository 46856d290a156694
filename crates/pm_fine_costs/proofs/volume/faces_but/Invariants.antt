use Rattle.std.proofs.Common.{◌≡◌, true, length}
use Rattle.std.specs.Option.{IfSome}
use Rattle.pm_links.specs.Lists.{has}
use Rattle.pm_shrink.specs.Shrinking.{fan_at}
use Rattle.pm_simplify.specs.Walks.{still}
use Rattle.pm_fine_costs.specs.Volumes.{face_but}
use Rattle.pm_fine_costs.proofs.VolumeWalks.{IsSumOf}
use Rattle.pm_fine_costs.proofs.volume.faces_but.Given as goal

abbrev pub invariant-loop-at : goal.invariant-loop-at
invariant-loop-at l = record {
  held : IfSome l.at (λ c. has (fan_at l.shrink l.v) c.0 ≡ true);
  sum : IsSumOf (face_but l.shrink.surface l.but l.p) (fan_at l.shrink l.v)
      (still l.at (fan_at l.shrink l.v)) l.sum;
}

abbrev pub decreases-loop-at : goal.decreases-loop-at
decreases-loop-at l = length (still l.at (fan_at l.shrink l.v))
