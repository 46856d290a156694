use Rattle.std.proofs.Common.{◌≡◌, ◌++◌, map, take}
use Rattle.pm_ears.specs.Recutting.{first_two}
use Rattle.pm_ears.proofs.recut.corners_of.Given as goal

abbrev pub invariant-loop-face : goal.invariant-loop-face
invariant-loop-face l =
    l.corners.items ≡ first_two l.fan ++ map (λ g. g.c) (take l.face-index l.fan)
