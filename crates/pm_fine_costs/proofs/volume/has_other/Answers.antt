use Rattle.pm_shrink.specs.Shrinking.{net_at}
use Rattle.pm_fine_costs.proofs.TakenLaws.{stands_after, stands_before}
use Rattle.pm_fine_costs.proofs.volume.has_other.Goals as goal

pub vertex_at-to-requires : goal.vertex_at-to-requires
vertex_at-to-requires c =
    stands_after (net_at c.args.shrink.now) c.args.side.0 c.next.result.0 c.requires
    c.next.ensures.value

pub vertex_at-third-requires : goal.vertex_at-third-requires
vertex_at-third-requires c =
    stands_before (net_at c.args.shrink.now) c.args.side.0 c.prev.result.0 c.requires
    c.prev.ensures.value
