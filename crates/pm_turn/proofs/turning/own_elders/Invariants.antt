use Rattle.std.proofs.Common.{◌≡◌, ℕ, ◌<◌, length, slice_index_or}
use Rattle.pm_turn.proofs.turning.own_elders.Given as goal

abbrev pub invariant-loop-face : goal.invariant-loop-face
invariant-loop-face l = record {
  long : length l.elders.items ≡ l.face;
  each : (x : ℕ) → x < l.face → slice_index_or l.elders.items x 0 ≡ x;
}
