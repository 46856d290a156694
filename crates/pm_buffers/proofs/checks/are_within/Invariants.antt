use Rattle.std.proofs.Common.{ℕ, ◌<◌, length}
use Rattle.pm_buffers.specs.Buffers.{at}
use Rattle.pm_buffers.proofs.checks.are_within.Given as goal

abbrev pub invariant-loop-item : goal.invariant-loop-item
invariant-loop-item l =
    (k : ℕ) → k < l.item-index → at l.items k < length l.tables.entries
