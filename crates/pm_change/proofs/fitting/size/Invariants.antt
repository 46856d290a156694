use Rattle.std.proofs.Common.{◌≡◌, ◌≤◌, ◌-◌, filter, length}
use Rattle.pm_base.specs.Counts.{set_of, numbers_below}
use Rattle.pm_change.proofs.fitting.size.Given as goal

abbrev pub invariant-loop-number : goal.invariant-loop-number
invariant-loop-number l = record {
  within : l.from ≤ length l.numbers;
  counted : l.count ≡ length (filter (set_of l.numbers) (numbers_below l.from));
}

abbrev pub decreases-loop-number : goal.decreases-loop-number
decreases-loop-number l = length l.numbers - l.from
