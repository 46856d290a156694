use Rattle.std.proofs.Common.{◌-◌, ◌≤◌}
use Rattle.pm_sets.specs.Sets.{IsGap}
use Rattle.pm_sets.proofs.bits.Bits.first_from.Given as goal

abbrev pub invariant-loop-from : goal.invariant-loop-from
invariant-loop-from l = record {
  after : l.at ≤ l.from;
  gap : IsGap l.self l.at l.from;
}

abbrev pub decreases-loop-from : goal.decreases-loop-from
decreases-loop-from l = l.self-inside.bound - l.from
