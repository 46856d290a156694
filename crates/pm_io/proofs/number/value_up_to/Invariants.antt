use Rattle.std.proofs.Common.{◌≡◌, ◌≤◌, drop, min}
use Rattle.pm_io.specs.Digits.{value}
use Rattle.pm_io.proofs.number.value_up_to.Given as goal

abbrev pub invariant-loop-b : goal.invariant-loop-b
invariant-loop-b l = record {
  small : l.n ≤ l.most;
  value : min (value l.n (drop l.b-index l.digits)) l.most ≡ min (value 0 l.digits) l.most;
}
