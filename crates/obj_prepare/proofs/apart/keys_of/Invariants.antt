use Rattle.std.proofs.Common.{◌≡◌, take, map}
use Rattle.obj_prepare.specs.Firsts.{place_key}
use Rattle.obj_prepare.proofs.apart.keys_of.Given as goal

abbrev pub invariant-loop-place : goal.invariant-loop-place
invariant-loop-place l = l.keys.items ≡ map place_key (take l.place-index l.places)
