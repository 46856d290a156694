use Rattle.std.proofs.Common.{◌≡◌, ◌-◌, length, take}
use Rattle.pm_base.specs.Counts.{set_of}
use Rattle.pm_beyond.specs.Plans.{moved_by}
use Rattle.pm_front.specs.Corners.{corner_lists_after}
use Rattle.pm_refine.specs.Doing.{splits_of, AreToDo}
use Rattle.pm_refine.proofs.doing.split_first.Given as goal

abbrev pub invariant-loop-left : goal.invariant-loop-left
invariant-loop-left l = record {
  hierarchy : l.front.h ≡ l.fn.front.h;
  len : length l.splits ≡ length l.fn.splits;
  left : l.left - length (splits_of l.splits) ≡ l.budget - length (splits_of l.fn.splits);
  to_do : AreToDo l.fn.front.h (set_of l.front.flags)
      (moved_by (set_of l.fn.front.flags) (take l.budget (splits_of l.fn.splits))) l.front.corners
      (corner_lists_after l.fn.front.h (set_of l.fn.front.flags)
      (take l.budget (splits_of l.fn.splits)) l.fn.front.corners)
      (take l.left (splits_of l.splits));
}

abbrev pub decreases-loop-left : goal.decreases-loop-left
decreases-loop-left l = l.left
