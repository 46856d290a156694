use Rattle.pm_number.specs.Numbering.{width_after}
use Rattle.pm_number.specs.Tables.{run_in, HasNumbers, all_vertices}
use Rattle.pm_number.proofs.run.Run.widths.Given as goal

abbrev pub invariant-loop-i : goal.invariant-loop-i
invariant-loop-i l =
    HasNumbers l.widths.items (width_after (run_in l.self) l.i)
    (all_vertices (run_in l.self))
