use Rattle.std.proofs.Common.{◌≡◌, drop}
use Rattle.pm_pack.specs.Pasts.{edge_in}
use Rattle.pm_pack.proofs.past.corners.edge_in.Given as goal

abbrev pub invariant-loop-spoke : goal.invariant-loop-spoke
invariant-loop-spoke l =
    edge_in l.faces l.own l.other (drop l.spoke-index l.ring)
    ≡ edge_in l.faces l.own l.other l.ring
