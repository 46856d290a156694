use Rattle.std.proofs.Common.{ap}
use Rattle.pm_forest.specs.declared.parts.Record.{Record}
use Rattle.pm_forest.specs.Forest.{s_of}
use Rattle.pm_bounds.proofs.Nodes.{split_node}
use Rattle.pm_deviation.proofs.nodes.nodes_of.Goals as goal

pub returns-clause-s : goal.returns-clause-s
unfolding s_of
returns-clause-s c = ap (λ (r : Record). r.s) c.record_at.ensures

pub returns-clause-s_node : goal.returns-clause-s_node
returns-clause-s_node c = split_node c.args.h.now c.invariant.ensures c.args.k c.requires
