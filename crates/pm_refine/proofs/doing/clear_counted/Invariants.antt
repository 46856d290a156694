use Rattle.std.proofs.Common.{◌≡◌, length}
use Rattle.pm_base.specs.Counts.{count, set_of}
use Rattle.pm_candidates.specs.Needed.{AreNeedCounts}
use Rattle.pm_refine.proofs.doing.clear_counted.Given as goal

abbrev pub invariant-loop-k : goal.invariant-loop-k
invariant-loop-k l = record {
  len : length l.collapses.records ≡ length l.fn.collapses.records;
  counts : AreNeedCounts l.front.h (set_of l.collapses.records) l.collapses.needs;
}

abbrev pub decreases-loop-k : goal.decreases-loop-k
decreases-loop-k l = count (set_of l.collapses.records) (length l.collapses.records)
