use Rattle.std.proofs.Common.{refl}
use Rattle.pm_base.proofs.Root.{root_up_only}
use Rattle.pm_base.proofs.distance.dist_up.Goals as goal

pub returns-clause-value : goal.returns-clause-value
returns-clause-value c =
    rw (
      root_up_only c.dist2.result c.root_of.result c.root_of.ensures.enough
          c.root_of.ensures.least,
      c.dist2.ensures.value,
    ) refl
