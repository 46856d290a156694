use Rattle.std.proofs.Common.{◌≡◌, ◌++◌, drop}
use Rattle.pm_ears.specs.Planes.{spots_on}
use Rattle.pm_ears.proofs.plane.spots.Given as goal

abbrev pub invariant-loop-i : goal.invariant-loop-i
invariant-loop-i l =
    l.spots.items ++ spots_on l.plane l.i (drop l.i l.points) ≡ spots_on l.plane 0 l.points
