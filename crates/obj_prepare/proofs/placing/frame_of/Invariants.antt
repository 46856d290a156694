use Rattle.std.proofs.Common.{◌≡◌, drop}
use Rattle.obj_prepare.specs.Named.{chosen}
use Rattle.obj_prepare.specs.Placing.{frame_of}
use Rattle.obj_prepare.proofs.PlacingLaws.{frame_after}
use Rattle.obj_prepare.proofs.placing.frame_of.Given as goal

abbrev pub invariant-loop-at : goal.invariant-loop-at
invariant-loop-at l =
    frame_after l.frame (chosen (drop l.at l.named) (drop l.at l.points))
    ≡ frame_of (chosen l.named l.points)
