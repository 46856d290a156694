use Rattle.std.proofs.Common.{Bool}
use Rattle.pm_base.specs.Sides.{Net}
use Rattle.pm_shrink.specs.Shrinking.{net_at}
use Rattle.pm_shrink.proofs.PlaceTables.{both_ways_not, no_from}
use Rattle.pm_runs.proofs.Legal.{border_once, once_border}
use Rattle.pm_shrink.proofs.shrink.Shrink.are_once_on_border.Goals as goal

pub returns : goal.returns
returns c =
    let m : Net = net_at c.args.self.now in
    let no_twice = c.invariant.ensures.kept.proper.once in
    let twice = c.are_twice_on_border.ensures in
    let result : Bool = c.are_twice_on_border.result in (
      λ t. border_once m no_twice c.args.a c.args.b
          (λ x y h k. both_ways_not result (twice.1 ((x, y), (h, k))) t),
      λ once. no_from result (λ t. let all = twice.0 t in
          once_border m c.args.a c.args.b once all.0.0 all.0.1 all.1.0 all.1.1),
    )
