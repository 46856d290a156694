use Rattle.std.proofs.Common.{◌≡◌, drop}
use Rattle.pm_pack.specs.Planes.{normal_from, normal}
use Rattle.pm_pack.proofs.plane.normal.Given as goal

abbrev pub invariant-loop-spoke : goal.invariant-loop-spoke
invariant-loop-spoke l =
    normal_from l.nodes l.node l.sum l.before (drop l.spoke-index l.ring)
    ≡ normal l.nodes l.node l.ring
