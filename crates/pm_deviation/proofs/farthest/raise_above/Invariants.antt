use Rattle.std.specs.Option.{option_map}
use Rattle.pm_base.specs.declared.ids.NodeId.{NodeId}
use Rattle.pm_deviation.specs.Farthest.{plane_through}
use Rattle.pm_deviation.proofs.FarthestLaws.{top_of, WalksUp}
use Rattle.pm_deviation.proofs.farthest.raise_above.Given as goal

abbrev pub invariant-loop-above : goal.invariant-loop-above
invariant-loop-above l =
    WalksUp l.h l.leaf (plane_through l.h l.parts l.leaf) l.fn.table.items l.table.items
    (option_map (λ (n : NodeId). n.0) l.above)

abbrev pub decreases-loop-above : goal.decreases-loop-above
decreases-loop-above l = top_of (option_map (λ (n : NodeId). n.0) l.above)
