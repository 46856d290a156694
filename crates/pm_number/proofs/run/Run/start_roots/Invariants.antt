use Rattle.pm_number.specs.Tables.{run_in}
use Rattle.pm_number.proofs.StartLaws.{HasRoots}
use Rattle.pm_number.proofs.run.Run.start_roots.Given as goal

abbrev pub invariant-loop-j : goal.invariant-loop-j
invariant-loop-j l = HasRoots (run_in l.self) l.starts.items l.start l.j
