use Rattle.std.proofs.Common.{◌≡◌, ℕ, ◌<◌, false, length, is_some, slice_index_or}
use Rattle.pm_base.specs.Sides.{find_below}
use Rattle.pm_number.specs.Numbering.{drops}
use Rattle.pm_number.specs.Tables.{run_in}
use Rattle.pm_number.proofs.run.Run.flag_dropped.Given as goal

abbrev pub invariant-loop-i : goal.invariant-loop-i
invariant-loop-i l = record {
  len : length l.flags.items ≡ (run_in l.self).net.faces;
  each : (f : ℕ) → f < (run_in l.self).net.faces → slice_index_or l.flags.items f false
      ≡ is_some (find_below (drops (run_in l.self) f) l.i);
}
