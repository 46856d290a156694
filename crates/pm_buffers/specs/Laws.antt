-- Why no change of a buffer writes fewer slots.
use Rattle.std.specs.Prelude.{ℕ, ◌≤◌, List, length}
use Rattle.pm_buffers.specs.Changes.{IsChange, AreChanged, AreWritten, write_count}

-- However the items are placed that are shown after a change, as many slots differ or have an item
-- that is put, or more.
abbrev pub WritesAreFewest : Type 0
WritesAreFewest =
    (old gone put now slots : List ℕ) → IsChange old gone put → AreChanged old gone put now
    → AreWritten old put now slots → write_count old gone put ≤ length slots
