-- How many steps a change takes.
use Rattle.std.specs.Prelude.{ℕ, ◌+◌, ◌*◌, Bool, length}
use Rattle.pm_base.specs.Counts.{count}
use Rattle.pm_forest.specs.Forest.{Hierarchy, record_count}
use Rattle.pm_beyond.specs.Plans.{differs}
use Rattle.pm_change.specs.Laws.{new_corners}

-- One for each record, 40 for each that is in one of S and G and not in the other, and three for
-- each corner of a kept face that is at a new node.
abbrev pub most_steps : Hierarchy → (ℕ → Bool) → (ℕ → Bool) → ℕ
most_steps h S G =
    record_count h + 40 * count (differs S G) (record_count h) + 3 * length (new_corners h S G)
