use Rattle.std.proofs.Common.{◌≡◌, take}
use Rattle.obj_fit.specs.Fine.{fine_places}
use Rattle.obj_fit.proofs.fine.fine_places.Given as goal

abbrev pub invariant-loop-p : goal.invariant-loop-p
invariant-loop-p l = l.fine.items ≡ fine_places l.size l.b (take l.p-index l.points)
