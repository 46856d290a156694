use Rattle.std.proofs.Common.{◌≡◌, ◌≤◌, ◌+◌, length}
use Rattle.pm_change.specs.Gathering.{size_of}
use Rattle.pm_change.proofs.sets.clear.Given as goal

abbrev pub invariant-loop-number : goal.invariant-loop-number
invariant-loop-number g l = record {
  len : length l.set ≡ length l.fn.set;
  cost : l.steps + size_of l.set ≤ l.fn.steps + size_of l.fn.set;
}

abbrev pub decreases-loop-number : goal.decreases-loop-number
decreases-loop-number g l = size_of l.set
