use Rattle.std.proofs.Common.{ap, arith}
use Rattle.pm_forest.specs.declared.parts.Record.{Record}
use Rattle.pm_forest.specs.Forest.{s_of}
use Rattle.pm_forest.proofs.ShapeLaws.{shape_of_nodes}
use Rattle.pm_fits.proofs.ranges.nodes_of.Goals as goal

pub returns-clause-s : goal.returns-clause-s
unfolding s_of
returns-clause-s c = ap (λ (r : Record). r.s) c.record_at.ensures

pub returns-clause-s_node : goal.returns-clause-s_node
returns-clause-s_node c =
    let nodes = shape_of_nodes c.args.h.now c.invariant.ensures in
    omega (arith, nodes.older c.args.k c.requires)
