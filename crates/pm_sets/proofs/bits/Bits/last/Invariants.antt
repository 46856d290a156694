use Rattle.std.proofs.Common.{◌+◌, ◌*◌, ◌/◌, ◌≤◌, length}
use Rattle.pm_sets.specs.Sets.{IsGap}
use Rattle.pm_sets.proofs.bits.Bits.last.Given as goal

abbrev pub invariant-loop-words : goal.invariant-loop-words
invariant-loop-words l = record {
  most : l.words ≤ length l.self / 64 + 1;
  gap : IsGap l.self (64 * l.words) (length l.self);
}

abbrev pub decreases-loop-words : goal.decreases-loop-words
decreases-loop-words l = l.words
