use Rattle.std.proofs.Common.{◌∙◌, ap}
use Rattle.pm_runs.specs.Surfaces.{is_live}
use Rattle.pm_runs.proofs.Live.{corner_live}
use Rattle.pm_shrink.specs.Shrinking.{net_at}
use Rattle.pm_fine_costs.proofs.TakenLaws.{stands_after, stands_before}
use Rattle.pm_fine_costs.proofs.round.corner_of.Goals as goal

pub place-requires : goal.place-requires
place-requires c =
    ap (is_live c.args.shrink.now.surface) c.vertex_at.ensures
    ∙ corner_live c.args.shrink.now.surface c.invariant.ensures.kept.surface c.args.side.0
    c.requires

pub vertex_at-requires-2 : goal.vertex_at-requires-2
vertex_at-requires-2 c =
    stands_after (net_at c.args.shrink.now) c.args.side.0 c.next-next.result.0 c.requires
    c.next-next.ensures.value

pub place-requires-2 : goal.place-requires-2
place-requires-2 c =
    ap (is_live c.args.shrink.now.surface) c.vertex_at-2.ensures
    ∙ corner_live c.args.shrink.now.surface c.invariant.ensures.kept.surface c.next-next.result.0
    (stands_after (net_at c.args.shrink.now) c.args.side.0 c.next-next.result.0 c.requires
    c.next-next.ensures.value)

pub vertex_at-requires-3 : goal.vertex_at-requires-3
vertex_at-requires-3 c =
    stands_before (net_at c.args.shrink.now) c.args.side.0 c.prev-before.result.0 c.requires
    c.prev-before.ensures.value

pub place-requires-3 : goal.place-requires-3
place-requires-3 c =
    ap (is_live c.args.shrink.now.surface) c.vertex_at-3.ensures
    ∙ corner_live c.args.shrink.now.surface c.invariant.ensures.kept.surface c.prev-before.result.0
    (stands_before (net_at c.args.shrink.now) c.args.side.0 c.prev-before.result.0 c.requires
    c.prev-before.ensures.value)

pub across-requires-2 : goal.across-requires-2
across-requires-2 c =
    stands_before (net_at c.args.shrink.now) c.args.side.0 c.prev-before.result.0 c.requires
    c.prev-before.ensures.value
