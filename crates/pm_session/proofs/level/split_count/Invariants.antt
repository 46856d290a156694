use Rattle.std.proofs.Common.{◌≡◌, ◌≤◌}
use Rattle.pm_base.specs.Counts.{set_of, count}
use Rattle.pm_session.proofs.level.split_count.Given as goal

abbrev pub invariant-loop-k : goal.invariant-loop-k
invariant-loop-k l = record {
  number : l.split ≡ count (set_of l.front.flags) l.k;
  few : l.split ≤ l.k;
}
