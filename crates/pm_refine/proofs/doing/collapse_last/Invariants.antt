use Rattle.std.proofs.Common.{◌≡◌, length, take}
use Rattle.pm_base.specs.Counts.{set_of}
use Rattle.pm_beyond.specs.Plans.{moved_by}
use Rattle.pm_front.specs.Corners.{corner_lists_after}
use Rattle.pm_candidates.specs.Needed.{AreNeedCounts}
use Rattle.pm_refine.specs.Doing.{collapses_of, AreToDo}
use Rattle.pm_refine.proofs.doing.collapse_last.Given as goal

abbrev pub invariant-loop-left : goal.invariant-loop-left
invariant-loop-left l = record {
  hierarchy : l.front.h ≡ l.fn.front.h;
  len : length l.collapses.records ≡ length l.fn.collapses.records;
  counts : AreNeedCounts l.fn.front.h (set_of l.collapses.records) l.collapses.needs;
  to_do : AreToDo l.fn.front.h (set_of l.front.flags)
      (moved_by (set_of l.fn.front.flags) (take l.budget (collapses_of l.fn.collapses.records)))
      l.front.corners
      (corner_lists_after l.fn.front.h (set_of l.fn.front.flags)
      (take l.budget (collapses_of l.fn.collapses.records)) l.fn.front.corners)
      (take l.left (collapses_of l.collapses.records));
}

abbrev pub decreases-loop-left : goal.decreases-loop-left
decreases-loop-left l = l.left
