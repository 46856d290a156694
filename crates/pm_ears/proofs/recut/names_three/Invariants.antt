use Rattle.std.proofs.Common.{◌≡◌, true, take}
use Rattle.pm_ears.specs.Recutting.{names_three}
use Rattle.pm_ears.proofs.recut.names_three.Given as goal

abbrev pub invariant-loop-face : goal.invariant-loop-face
invariant-loop-face l = names_three (take l.face-index l.fan) ≡ true
