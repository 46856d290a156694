use Rattle.std.proofs.Common.{◌≡◌, ◌≤◌, ◌-◌, filter, length, take, drop}
use Rattle.pm_base.specs.Counts.{set_of, numbers_below}
use Rattle.pm_change.proofs.storing.store_numbers.Given as goal

abbrev pub invariant-loop-number : goal.invariant-loop-number
invariant-loop-number l = record {
  within : l.from ≤ length l.numbers;
  counted : l.count ≡ length (filter (set_of l.numbers) (numbers_below l.from));
  stored : take l.count l.to ≡ filter (set_of l.numbers) (numbers_below l.from);
  behind : drop l.count l.to ≡ drop l.count l.fn.to;
  len : length l.to ≡ length l.fn.to;
}

abbrev pub decreases-loop-number : goal.decreases-loop-number
decreases-loop-number l = length l.numbers - l.from
