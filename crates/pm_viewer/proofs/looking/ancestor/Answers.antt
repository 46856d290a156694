use Rattle.std.proofs.Common.{subst}
use Rattle.pm_base.specs.Counts.{set_of}
use Rattle.pm_beyond.proofs.Standing.{closed-front}
use Rattle.pm_forest.proofs.Ancestors.{leaf-node}
use Rattle.pm_forest.proofs.Climbing.{IsAbove, climb_start}
use Rattle.pm_forest.proofs.ShapeLaws.{shape_of_nodes}
use Rattle.pm_viewer.proofs.looking.ancestor.Goals as goal

pub climb-requires-clause-front : goal.climb-requires-clause-front
climb-requires-clause-front c = closed-front c.args.front.now.h (set_of c.args.front.now.flags)
    c.invariant.ensures.closed

pub climb-requires-clause-above : goal.climb-requires-clause-above
climb-requires-clause-above c =
    let h = c.args.front.now.h in
    let T = set_of c.args.front.now.flags in
    let nodes = shape_of_nodes h c.invariant.ensures.valid.shape in
    let same = leaf-node h nodes _ c.args.leaf c.leaf_node-from.ensures.there
    c.leaf_node-from.ensures.alone in
    subst (IsAbove h T c.args.leaf) same (climb_start h nodes T c.args.leaf c.requires)
