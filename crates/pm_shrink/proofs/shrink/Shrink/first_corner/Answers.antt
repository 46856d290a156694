use Rattle.std.proofs.Common.{rules, subst}
use Rattle.pm_shrink.specs.Shrinking.{Shrinking, AreCornersAt, net_at, fan_at}
use Rattle.pm_shrink.proofs.ReaderLaws.{first_stands}
use Rattle.pm_shrink.proofs.shrink.Shrink.first_corner.Goals as goal

pub returns-clause-value : goal.returns-clause-value
returns-clause-value c = search rules

pub returns-clause-stands : goal.returns-clause-stands
returns-clause-stands c =
    let are = subst (λ (s : Shrinking). AreCornersAt (net_at s) c.args.v (fan_at s c.args.v))
    c.self.view_is (c.self.invariant.kept.corners c.args.v) in
    first_stands (net_at c.args.self.now) c.args.v (fan_at c.args.self.now c.args.v) are
    c.map.result (returns-clause-value c)
