use Rattle.std.proofs.Common.{◌≡◌}
use Rattle.pm_load.proofs.descent.lower_all.Given as goal

abbrev pub invariant-loop-descent : goal.invariant-loop-descent
invariant-loop-descent g l =
    (g.D.Descent.lowered l.descent).h ≡ (g.D.Descent.lowered l.fn.descent).h

abbrev pub decreases-loop-descent : goal.decreases-loop-descent
decreases-loop-descent g l = (g.D.Descent.lowered l.descent).left
