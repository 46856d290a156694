use Rattle.std.proofs.Common.{◌≡◌, ℕ, ◌+◌, ◌<◌, ◌≤◌, length, slice_index_or}
use Rattle.pm_base.specs.Counts.{one_if}
use Rattle.pm_ears.specs.Areas.{inside_of, lies_in, triangle_at}
use Rattle.pm_ears.proofs.counted.recount.Given as goal

abbrev pub invariant-loop-i : goal.invariant-loop-i
invariant-loop-i l = record {
  long : length l.inside.items + 2 ≡ length l.left;
  done : (k : ℕ) → k < l.i
      → slice_index_or l.inside.items k 0 ≡ inside_of (triangle_at l.left k) l.left;
  rest : (k : ℕ) → l.i ≤ k → k + 2 < length l.left → (k + 1 ≡ l.at → ⊥) → (k ≡ l.at → ⊥)
      → slice_index_or l.inside.items k 0
      ≡ inside_of (triangle_at l.left k) l.left + one_if (lies_in (triangle_at l.left k)
      l.gone);
}
