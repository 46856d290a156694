use Rattle.std.proofs.Common.{◌≡◌, ◌<◌, ℕ, length}
use Rattle.pm_base.specs.Counts.{set_of}
use Rattle.pm_forest.specs.Kept.{is_kept}
use Rattle.pm_strips.proofs.stripper.free_kept.Given as goal

abbrev pub invariant-loop-face : goal.invariant-loop-face
invariant-loop-face l = record {
  len : length l.free.items ≡ length l.fn.free.items;
  each : (f : ℕ) → f < l.face → set_of l.free.items f ≡ is_kept l.front.h (set_of l.front.flags) f;
}
