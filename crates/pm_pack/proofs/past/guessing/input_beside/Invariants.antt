use Rattle.std.proofs.Common.{◌≡◌, drop}
use Rattle.pm_pack.specs.Hints.{input_beside}
use Rattle.pm_pack.proofs.past.guessing.input_beside.Given as goal

abbrev pub invariant-loop-spoke : goal.invariant-loop-spoke
invariant-loop-spoke l =
    input_beside l.nodes (drop l.spoke-index l.ring) l.other ≡ input_beside l.nodes l.ring l.other
