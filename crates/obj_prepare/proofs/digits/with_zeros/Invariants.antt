use Rattle.std.proofs.Common.{◌≡◌, ◌+◌, ◌-◌, ◌*◌, ◌^◌, ◌≤◌, min}
use Rattle.obj_prepare.proofs.digits.with_zeros.Given as goal

abbrev pub invariant-loop-turn : goal.invariant-loop-turn
invariant-loop-turn l = record {
  small : l.n ≤ 10 ^ 32 + 1;
  value : min (l.n * 10 ^ (l.zeros - l._turn)) (10 ^ 32 + 1)
      ≡ min (l.fn.start * 10 ^ l.zeros) (10 ^ 32 + 1);
}
