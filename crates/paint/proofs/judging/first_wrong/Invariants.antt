use Rattle.std.proofs.Common.{◌≡◌, ◌<◌, ℕ, not, false, slice_index_or, pos}
use Rattle.pm_fits.specs.Faults.{is_number}
use Rattle.paint.proofs.judging.first_wrong.Given as goal

abbrev pub invariant-loop-i : goal.invariant-loop-i
invariant-loop-i l =
    (k : ℕ) → k < l.i → not (is_number (slice_index_or l.numbers k (pos 0))) ≡ false
