use Rattle.std.proofs.Common.{◌≡◌, ◌-◌, ◌++◌}
use Rattle.pm_coder.specs.Intervals.{settled, same_bytes}
use Rattle.pm_coder.proofs.encoder.put_same_bytes.Given as goal

abbrev pub invariant-loop-shift : goal.invariant-loop-shift
invariant-loop-shift l = record {
  interval : settled (4 - l._shift) l.left ≡ settled 4 l.fn.part;
  written : l.bytes.items ++ same_bytes (4 - l._shift) l.left
      ≡ l.fn.bytes.items ++ same_bytes 4 l.fn.part;
}
