use Rattle.std.proofs.Common.{◌≡◌, ◌≤◌, ◌^◌, ◌++◌}
use Rattle.pm_base.specs.Canonical.{last_digits}
use Rattle.obj_fit.proofs.text.add_digits.Given as goal

abbrev pub invariant-loop-left : goal.invariant-loop-left
invariant-loop-left l = record {
  few : l.left ≤ l.digits;
  unit : l.unit ≡ 10 ^ l.left;
  text : l.text.items ++ last_digits l.left l.n ≡ l.fn.text.items ++ last_digits l.digits l.n;
}

abbrev pub decreases-loop-left : goal.decreases-loop-left
decreases-loop-left l = l.left
