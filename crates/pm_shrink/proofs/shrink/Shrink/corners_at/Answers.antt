use Rattle.std.proofs.Common.{subst, sym, ◌<◌}
use Rattle.std.specs.List.{All}
use Rattle.pm_base.specs.Sides.{Stands, side_count}
use Rattle.pm_shrink.specs.Shrinking.{net_at}
use Rattle.pm_shrink.proofs.FanLaws.{all_stand, all_start, all_within}
use Rattle.pm_shrink.proofs.shrink.Shrink.corners_at.Goals as goal

pub returns-clause-corners : goal.returns-clause-corners
returns-clause-corners c = rw (← c.self.view_is) c.items.ensures.items

pub returns-clause-each : goal.returns-clause-each
returns-clause-each c = rw (← c.self.view_is) (c.self.invariant.kept.corners c.args.v)

pub returns-clause-stand : goal.returns-clause-stand
returns-clause-stand c =
    subst (All (Stands (net_at c.args.self.now))) (sym (returns-clause-corners c))
    (all_stand (returns-clause-each c))

pub returns-clause-start : goal.returns-clause-start
returns-clause-start c = rw (returns-clause-corners c) (all_start (returns-clause-each c))

pub returns-clause-within : goal.returns-clause-within
returns-clause-within c =
    subst (All (λ e. e < side_count (net_at c.args.self.now))) (sym (returns-clause-corners c))
    (all_within (returns-clause-each c))
