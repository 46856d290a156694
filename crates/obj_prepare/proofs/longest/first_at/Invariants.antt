use Rattle.std.proofs.Common.{◌≡◌, ◌+◌, drop}
use Rattle.obj_prepare.specs.Longest.{first_at as first_at_of}
use Rattle.obj_prepare.proofs.longest.first_at.Given as goal

abbrev pub invariant-loop-at : goal.invariant-loop-at
invariant-loop-at l = first_at_of l.axis l.n l.named l.points
    ≡ l.at + first_at_of l.axis l.n (drop l.at l.named) (drop l.at l.points)
