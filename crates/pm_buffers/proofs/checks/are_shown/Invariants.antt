use Rattle.std.proofs.Common.{ℕ, ◌<◌}
use Rattle.pm_buffers.specs.Buffers.{at, Shows}
use Rattle.pm_buffers.proofs.checks.are_shown.Given as goal

abbrev pub invariant-loop-item : goal.invariant-loop-item
invariant-loop-item l = (k : ℕ) → k < l.item-index → Shows l.tables.entries (at l.items k)
