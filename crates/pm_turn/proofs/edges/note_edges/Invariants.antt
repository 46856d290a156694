use Rattle.std.proofs.Common.{◌≡◌}
use Rattle.pm_base.specs.Counts.{count}
use Rattle.pm_base.specs.Sides.{net_of}
use Rattle.pm_turn.specs.Edges.{AreEdges, comes_third}
use Rattle.pm_turn.proofs.edges.note_edges.Given as goal

abbrev pub invariant-loop-number : goal.invariant-loop-number
invariant-loop-number l = record {
  noted : AreEdges (net_of l.faces) l.number l.sides;
  crowded : l.crowded ≡ count (comes_third (net_of l.faces)) l.number;
}
