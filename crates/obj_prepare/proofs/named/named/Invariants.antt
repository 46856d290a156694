use Rattle.std.proofs.Common.{◌≡◌, take}
use Rattle.obj_prepare.specs.Named.{named_in}
use Rattle.obj_prepare.proofs.named.named.Given as goal

abbrev pub invariant-loop-at : goal.invariant-loop-at
invariant-loop-at l = l.flags.items ≡ named_in (take l.at l.faces) l.vertices
