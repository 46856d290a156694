use Rattle.std.proofs.Common.{◌*◌, ◌-◌, ◌≤◌, ℕ}
use Rattle.pm_bounds.proofs.roots.root_up.Given as goal

abbrev pub invariant-loop-low : goal.invariant-loop-low
invariant-loop-low l = record {
  ordered : l.low ≤ l.high;
  most : l.high ≤ 113509;
  enough : l.n ≤ l.high * l.high;
  least : (m : ℕ) → l.n ≤ m * m → l.low ≤ m;
}

abbrev pub decreases-loop-low : goal.decreases-loop-low
decreases-loop-low l = l.high - l.low
