use Rattle.std.proofs.Common.{◌≡◌, ℕ, ◌<◌, length, slice_index_or}
use Rattle.pm_number.specs.Tables.{RootsHave}
use Rattle.pm_number.proofs.tables.number_left.Given as goal

abbrev pub invariant-loop-j : goal.invariant-loop-j
invariant-loop-j l = record {
  len : length l.table.items ≡ length l.fn.table.items;
  each : (number : ℕ → ℕ) → ((j : ℕ) → j < length l.left → number (slice_index_or l.left j 0) ≡ j)
      → (j : ℕ) → j < l.j → RootsHave l.table.items number l.left j;
}
