use Rattle.std.proofs.Common.{◌≡◌, ◌+◌, ◌^◌, ◌≤◌, drop, min}
use Rattle.pm_io.specs.Digits.{value}
use Rattle.obj_prepare.proofs.digits.digits_after.Given as goal

abbrev pub invariant-loop-b : goal.invariant-loop-b
invariant-loop-b l = record {
  small : l.n ≤ 10 ^ 32 + 1;
  value : min (value l.n (drop l.b-index l.digits)) (10 ^ 32 + 1)
      ≡ min (value l.fn.start l.digits) (10 ^ 32 + 1);
}
