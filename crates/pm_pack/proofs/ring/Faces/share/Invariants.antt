use Rattle.std.proofs.Common.{◌≡◌, drop}
use Rattle.pm_pack.specs.Rings.{shared}
use Rattle.pm_pack.proofs.ring.Faces.share.Given as goal

abbrev pub invariant-loop-spoke : goal.invariant-loop-spoke
invariant-loop-spoke l =
    shared l.self l.end l.t l.u (drop l.spoke-index l.ring)
    ≡ shared l.fn.self l.end l.t l.u l.ring
