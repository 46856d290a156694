use Rattle.std.proofs.Common.{◌≡◌, ◌+◌, ◌≤◌, take, length}
use Rattle.paint.proofs.parts.widened.Given as goal

abbrev pub invariant-loop-i : goal.invariant-loop-i
invariant-loop-i l = record {
  items : l.numbers.items ≡ take l.i l.bytes;
  spare : length l.bytes ≤ l.i + l.numbers.spare;
}
