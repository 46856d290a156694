use Rattle.std.proofs.Common.{◌≡◌, ◌<◌, ℕ, length, slice_index_or}
use Rattle.std.specs.List.{All}
use Rattle.pm_slots.proofs.table.first_slots.Given as goal

abbrev pub invariant-loop-v : goal.invariant-loop-v
invariant-loop-v l = record {
  len : length l.slots.items ≡ l.room;
  each : (k : ℕ) → k < l.v → slice_index_or l.slots.items k 0 ≡ k;
  within : All (λ k. k < l.vertices) l.slots.items;
}
