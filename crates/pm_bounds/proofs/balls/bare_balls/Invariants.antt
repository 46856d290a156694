use Rattle.pm_bounds.specs.Tables.{AreBare}
use Rattle.pm_bounds.proofs.balls.bare_balls.Given as goal

abbrev pub invariant-loop-node : goal.invariant-loop-node
invariant-loop-node l = AreBare l.h l.node l.balls.items
