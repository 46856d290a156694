use Rattle.std.proofs.Common.{◌≡◌, ℕ, ◌<◌, length, slice_index_or}
use Rattle.pm_turn.specs.Turning.{flag_of}
use Rattle.pm_turn.specs.Sums.{root_at, parity_at, no_sums, is_reversed, chosen_flag}
use Rattle.pm_turn.proofs.choice.chosen_flags.Given as goal

abbrev pub invariant-loop-face : goal.invariant-loop-face
invariant-loop-face l = record {
  long : length l.flags.items ≡ l.face;
  each : (f : ℕ) → f < l.face
      → flag_of l.flags.items f ≡ chosen_flag (flag_of l.odd (root_at l.roots f))
      (is_reversed (slice_index_or l.sums (root_at l.roots f) no_sums)) (parity_at l.roots f);
}
