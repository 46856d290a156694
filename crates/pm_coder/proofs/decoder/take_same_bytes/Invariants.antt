use Rattle.std.proofs.Common.{◌≡◌, ◌+◌, ◌-◌, ◌≤◌, length}
use Rattle.pm_coder.specs.Intervals.{settled, same_bytes}
use Rattle.pm_coder.proofs.decoder.take_same_bytes.Given as goal

abbrev pub invariant-loop-shift : goal.invariant-loop-shift
invariant-loop-shift l = record {
  within : l.shift + 4 ≤ length l.bytes;
  interval : settled (4 - l.shift) l.left ≡ settled 4 l.fn.part;
  taken : l.shift + length (same_bytes (4 - l.shift) l.left) ≡ length (same_bytes 4 l.fn.part);
}
