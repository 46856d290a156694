use Rattle.pm_fans.specs.HeadKeys.{AreRenamed}
use Rattle.pm_fans.proofs.numbers.new_faces.Given as goal

abbrev pub invariant-loop-number : goal.invariant-loop-number
invariant-loop-number l = AreRenamed l.heads l.places l.number l.faces.items
