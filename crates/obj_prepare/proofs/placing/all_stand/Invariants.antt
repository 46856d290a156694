use Rattle.std.proofs.Common.{◌≡◌, drop}
use Rattle.std.specs.List.{list_all}
use Rattle.obj_prepare.specs.Whole.{stands_on_grid}
use Rattle.obj_prepare.specs.Named.{chosen}
use Rattle.obj_prepare.proofs.placing.all_stand.Given as goal

abbrev pub invariant-loop-at : goal.invariant-loop-at
invariant-loop-at l =
    list_all stands_on_grid (chosen (drop l.at l.named) (drop l.at l.points))
    ≡ list_all stands_on_grid (chosen l.named l.points)
