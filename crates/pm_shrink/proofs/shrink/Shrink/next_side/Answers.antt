use Rattle.std.proofs.Common.{sym, subst}
use Rattle.pm_base.specs.Sides.{Stands}
use Rattle.pm_base.proofs.Sides.{stands_next}
use Rattle.pm_shrink.specs.Shrinking.{net_at}
use Rattle.pm_shrink.proofs.shrink.Shrink.next_side.Goals as goal

pub returns-clause-stands : goal.returns-clause-stands
returns-clause-stands c =
    subst (Stands (net_at c.args.self.now)) (sym c.next.ensures.value)
    (stands_next (net_at c.args.self.now) c.args.side.0 c.requires)
