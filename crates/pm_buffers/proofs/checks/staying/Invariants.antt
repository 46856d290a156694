use Rattle.std.proofs.Common.{◌≡◌, ◌≤◌, length, take}
use Rattle.pm_buffers.specs.Changes.{staying}
use Rattle.pm_buffers.proofs.checks.staying.Given as goal

abbrev pub invariant-loop-item : goal.invariant-loop-item
invariant-loop-item l = record {
  count : l.count ≡ length (staying l.tables.entries (take l.item-index l.items));
  within : l.count ≤ l.item-index;
}
