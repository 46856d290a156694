-- A change while its slots are written.
use Rattle.std.specs.Prelude.{◌≡◌, ◌≢◌, ℕ, ◌<◌, ◌≤◌, List, length}
use Rattle.pm_buffers.specs.Buffers.{at, Shows}
use Rattle.pm_buffers.specs.Changes.{AreKept}
use Rattle.pm_buffers.specs.declared.tables.TheConstants.{EMPTY}

-- The first slots written, where so many of the items that leave have left: each has the item put
-- in its turn, or is left empty; the others are as they were.
pub record AreWrittenSoFar (old gone put now slots : List ℕ) (count left : ℕ) : Type 0 where
  pub once : (j k : ℕ) → j < k → k < count → at slots j ≢ at slots k
  pub each : (k : ℕ) → k < count → at now (at slots k) ≡ at put k
  pub others : (s : ℕ) → ((k : ℕ) → k < count → at slots k ≢ s) → at now s ≡ at old s
  pub kept : AreKept old gone now
  pub hidden : (i : ℕ) → i < left → i < length gone → ¬ Shows now (at gone i)
  pub still : (i : ℕ) → left ≤ i → i < length gone → Shows now (at gone i)
  pub emptied : (k : ℕ) → length put ≤ k → k < count → at old (at slots k) ≢ EMPTY
