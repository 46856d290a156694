use Rattle.std.proofs.Common.{◌≡◌, ℕ, ◌<◌, false, length, is_some, slice_index_or}
use Rattle.pm_base.specs.Sides.{find_below}
use Rattle.pm_number.specs.Numbering.{takes}
use Rattle.pm_number.specs.Tables.{run_in, all_vertices}
use Rattle.pm_number.proofs.run.Run.flag_taken.Given as goal

abbrev pub invariant-loop-i : goal.invariant-loop-i
invariant-loop-i l = record {
  len : length l.flags.items ≡ all_vertices (run_in l.self);
  each : (v : ℕ) → v < all_vertices (run_in l.self)
      → slice_index_or l.flags.items v false
      ≡ is_some (find_below (takes (run_in l.self) v) l.i);
}
