use Rattle.std.proofs.Common.{◌≡◌, ◌<◌, ℕ, [], length, get_or}
use Rattle.pm_candidates.specs.Needed.{AreNeedsOf}
use Rattle.pm_candidates.proofs.needs.NeedTable.new.Given as goal

abbrev pub invariant-loop-k : goal.invariant-loop-k
invariant-loop-k l = record {
  len : length l.rows.items ≡ l.k;
  each : (j : ℕ) → j < l.k → AreNeedsOf l.h j (get_or l.rows.items j []);
}
