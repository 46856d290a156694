use Rattle.std.proofs.Common.{◌≡◌}
use Rattle.pm_base.specs.Counts.{count}
use Rattle.pm_turn.specs.Turning.{flag_of}
use Rattle.pm_turn.proofs.counts.count_set.Given as goal

abbrev pub invariant-loop-at : goal.invariant-loop-at
invariant-loop-at l = l.set ≡ count (flag_of l.flags) l.at
