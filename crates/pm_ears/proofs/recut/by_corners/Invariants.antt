use Rattle.std.proofs.Common.{◌≡◌, map, take}
use Rattle.pm_ears.specs.Recutting.{by_corners}
use Rattle.pm_ears.proofs.recut.by_corners.Given as goal

abbrev pub invariant-loop-t : goal.invariant-loop-t
invariant-loop-t l = l.faces.items ≡ map (by_corners l.corners) (take l.t-index l.triangles)
