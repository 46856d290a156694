use Rattle.std.proofs.Common.{◌≡◌, map, take}
use Rattle.obj_prepare.specs.Joining.{renamed}
use Rattle.obj_prepare.proofs.joining.joined_faces.Given as goal

abbrev pub invariant-loop-at : goal.invariant-loop-at
invariant-loop-at l = l.joined.items ≡ map (renamed l.names) (take l.at l.faces)
