use Rattle.pm_number.specs.Tables.{run_in}
use Rattle.pm_number.proofs.FaceTables.{HasDropped}
use Rattle.pm_number.proofs.run.Run.number_dropped.Given as goal

abbrev pub invariant-loop-d : goal.invariant-loop-d
invariant-loop-d l = HasDropped (run_in l.self) l.faces.items l.next l.d
