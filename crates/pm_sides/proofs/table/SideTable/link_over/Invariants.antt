use Rattle.pm_base.specs.Counts.{set_of}
use Rattle.pm_sides.proofs.CollapseLaws.{LinkedBelow}
use Rattle.pm_sides.proofs.table.SideTable.link_over.Given as goal

abbrev pub invariant-loop-face : goal.invariant-loop-face
invariant-loop-face l = LinkedBelow l.indexed (set_of l.split) l.k l.face l.fn.self l.self
