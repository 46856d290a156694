use Rattle.pm_base.specs.Sides.{net_of}
use Rattle.pm_twins.proofs.TwinTables.{AreMarked}
use Rattle.pm_twins.proofs.twins.mark_border.Given as goal

abbrev pub invariant-loop-number : goal.invariant-loop-number
invariant-loop-number l = AreMarked (net_of l.faces) l.vertices l.number l.border.items
