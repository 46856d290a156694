use Rattle.std.proofs.Common.{◌≡◌, ◌+◌, ◌≤◌, drop}
use Rattle.pm_ears.specs.Areas.{inside_of}
use Rattle.pm_ears.proofs.spots.count_inside.Given as goal

abbrev pub invariant-loop-i : goal.invariant-loop-i
invariant-loop-i l = record {
  value : l.inside + inside_of l.t (drop l.i l.spots) ≡ inside_of l.t l.spots;
  few : l.inside ≤ l.i;
}
