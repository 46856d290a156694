use Rattle.std.proofs.Common.{◌≡◌, ◌≤◌, min, length}
use Rattle.pm_io.specs.Digits.{value}
use Rattle.obj_read.specs.Leading.{leading, after_digits}
use Rattle.obj_read.proofs.leading.leading_number.Given as goal

abbrev pub invariant-loop-digit : goal.invariant-loop-digit
invariant-loop-digit l = record {
  small : l.n ≤ l.most;
  number : min (value l.n (leading l.rest)) l.most ≡ min (value 0 (leading l.text)) l.most;
  rest : after_digits l.rest ≡ after_digits l.text;
}

abbrev pub decreases-loop-digit : goal.decreases-loop-digit
decreases-loop-digit l = length l.rest
