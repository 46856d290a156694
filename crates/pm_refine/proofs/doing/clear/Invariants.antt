use Rattle.std.proofs.Common.{◌≡◌, length}
use Rattle.pm_base.specs.Counts.{count, set_of}
use Rattle.pm_refine.proofs.doing.clear.Given as goal

abbrev pub invariant-loop-k : goal.invariant-loop-k
invariant-loop-k l = record {
  len : length l.numbers ≡ length l.fn.numbers;
}

abbrev pub decreases-loop-k : goal.decreases-loop-k
decreases-loop-k l = count (set_of l.numbers) (length l.numbers)
