use Rattle.std.proofs.Common.{◌≡◌, take}
use Rattle.obj_prepare.specs.Named.{of_three as of_three_in}
use Rattle.obj_prepare.proofs.three.of_three.Given as goal

abbrev pub invariant-loop-face : goal.invariant-loop-face
invariant-loop-face l = l.three.items ≡ of_three_in (take l.face-index l.faces)
