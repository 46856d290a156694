use Rattle.std.proofs.Common.{◌≡◌, ℕ, ◌<◌, length, true, false, slice_index_or}
use Rattle.pm_buffers.specs.Buffers.{at}
use Rattle.pm_buffers.proofs.marks.clear_all.Given as goal

abbrev pub invariant-loop-item : goal.invariant-loop-item
invariant-loop-item l = record {
  len : length l.marks ≡ length l.fn.marks;
  cleared : (k : ℕ) → k < l.item-index
      → slice_index_or l.marks (at l.items k) false ≡ false;
  none_set : (x : ℕ) → slice_index_or l.marks x false ≡ true
      → slice_index_or l.fn.marks x false ≡ true;
}
