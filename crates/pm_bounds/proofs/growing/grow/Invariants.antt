use Rattle.pm_bounds.proofs.NodeTables.{AreGrown}
use Rattle.pm_bounds.proofs.growing.grow.Given as goal

abbrev pub invariant-loop-k : goal.invariant-loop-k
invariant-loop-k l =
    AreGrown l.h l.fn.balls.items l.balls.items l.boxes.items l.split_balls.items l.k
