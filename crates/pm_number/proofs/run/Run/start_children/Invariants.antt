use Rattle.pm_number.specs.Tables.{run_in, HasStarts}
use Rattle.pm_number.proofs.run.Run.start_children.Given as goal

abbrev pub invariant-loop-d : goal.invariant-loop-d
invariant-loop-d l = HasStarts (run_in l.self) l.starts.items l.d
