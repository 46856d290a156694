use Rattle.std.proofs.Common.{◌≡◌, ◌<◌, ◌==◌, ℕ, not, false, slice_index_or}
use Rattle.paint.proofs.judging.first_other.Given as goal

abbrev pub invariant-loop-i : goal.invariant-loop-i
invariant-loop-i l = (k : ℕ) → k < l.i → not (slice_index_or l.bytes k 0 == 0) ≡ false
