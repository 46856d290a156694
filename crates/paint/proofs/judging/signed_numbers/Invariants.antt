use Rattle.std.proofs.Common.{◌≡◌, ◌+◌, ◌≤◌, map}
use Rattle.std.specs.List.{range_with_len}
use Rattle.paint.specs.Coat.{signed_at}
use Rattle.paint.proofs.judging.signed_numbers.Given as goal

abbrev pub invariant-loop-i : goal.invariant-loop-i
invariant-loop-i l = record {
  items : l.numbers.items ≡ map (signed_at l.bytes) (range_with_len 0 l.i);
  spare : l.count ≤ l.i + l.numbers.spare;
}
