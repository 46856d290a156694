use Rattle.pm_base.specs.Sides.{net_of}
use Rattle.pm_turn.proofs.MateLaws.{AreMatedTo}
use Rattle.pm_turn.proofs.edges.edge_mates.Given as goal

abbrev pub invariant-loop-number : goal.invariant-loop-number
invariant-loop-number l = AreMatedTo (net_of l.faces) l.number l.mates
