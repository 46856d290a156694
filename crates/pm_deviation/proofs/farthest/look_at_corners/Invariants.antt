use Rattle.pm_deviation.specs.Farthest.{AreFarthestOf}
use Rattle.pm_deviation.proofs.farthest.look_at_corners.Given as goal

abbrev pub invariant-loop-number : goal.invariant-loop-number
invariant-loop-number l = AreFarthestOf l.h l.number l.table.items
