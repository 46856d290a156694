use Rattle.pm_deviation.proofs.HeadingTables.{AreSeenTo}
use Rattle.pm_deviation.proofs.axis_spreads.see.Given as goal

abbrev pub invariant-loop-i : goal.invariant-loop-i
invariant-loop-i l = AreSeenTo l.h l.headings l.axis l.i l.table.items
