use Rattle.std.proofs.Common.{◌≡◌, take, map}
use Rattle.obj_prepare.specs.Joining.{place_in_list}
use Rattle.obj_prepare.proofs.preparing.points_of.Given as goal

abbrev pub invariant-loop-v : goal.invariant-loop-v
invariant-loop-v l = l.points.items ≡ map (place_in_list l.places) (take l.v-index l.old)
