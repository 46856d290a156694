use Rattle.std.proofs.Common.{◌≡◌, ◌≢◌, ℕ, ◌<◌, ◌⊎◌, length, true, false, slice_index_or}
use Rattle.pm_buffers.specs.Buffers.{at}
use Rattle.pm_buffers.proofs.marks.mark_all.Given as goal

abbrev pub invariant-loop-at : goal.invariant-loop-at
invariant-loop-at l = record {
  len : length l.marks ≡ length l.fn.marks;
  marked : (x : ℕ) → slice_index_or l.marks x false ≡ true
      → (slice_index_or l.fn.marks x false ≡ true)
      ⊎ ((k : ℕ) × (k < l.at) × (at l.items k ≡ x));
  stay : (x : ℕ) → slice_index_or l.fn.marks x false ≡ true
      → slice_index_or l.marks x false ≡ true;
  all : (k : ℕ) → k < l.at → slice_index_or l.marks (at l.items k) false ≡ true;
  fresh : (k : ℕ) → k < l.at → slice_index_or l.fn.marks (at l.items k) false ≡ false;
  once : (j k : ℕ) → j < k → k < l.at → at l.items j ≢ at l.items k;
}
