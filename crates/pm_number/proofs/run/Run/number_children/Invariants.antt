use Rattle.pm_number.specs.Tables.{run_in}
use Rattle.pm_number.proofs.NumberLaws.{HasEnds}
use Rattle.pm_number.proofs.run.Run.number_children.Given as goal

abbrev pub invariant-loop-i : goal.invariant-loop-i
invariant-loop-i l = HasEnds (run_in l.self) l.nodes.items l.i
