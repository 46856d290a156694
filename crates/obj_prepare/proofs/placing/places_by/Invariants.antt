use Rattle.std.proofs.Common.{◌≡◌, drop, ◌++◌}
use Rattle.obj_prepare.specs.Placing.{places_by}
use Rattle.obj_prepare.proofs.placing.places_by.Given as goal

abbrev pub invariant-loop-at : goal.invariant-loop-at
invariant-loop-at l =
    l.places.items ++ places_by l.fit (drop l.at l.named) (drop l.at l.points)
    ≡ places_by l.fit l.named l.points
