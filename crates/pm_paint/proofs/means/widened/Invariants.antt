use Rattle.std.proofs.Common.{◌≡◌, ◌+◌, ◌≤◌, take, length}
use Rattle.pm_paint.specs.Means.{AreAtMost}
use Rattle.pm_paint.proofs.means.widened.Given as goal

abbrev pub invariant-loop-i : goal.invariant-loop-i
invariant-loop-i l = record {
  items : l.numbers.items ≡ take l.i l.values;
  small : AreAtMost 65535 l.numbers.items;
  spare : length l.values ≤ l.i + l.numbers.spare;
}
