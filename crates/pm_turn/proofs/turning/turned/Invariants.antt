use Rattle.std.proofs.Common.{◌≡◌, ◌++◌, drop}
use Rattle.pm_turn.specs.Turning.{turned_by}
use Rattle.pm_turn.proofs.turning.turned.Given as goal

-- What is left of the faces comes after those that were done.
abbrev pub invariant-loop-at : goal.invariant-loop-at
invariant-loop-at l =
    l.all.items ++ turned_by (drop l.at l.flags) (drop l.at l.faces) ≡ turned_by l.flags l.faces
