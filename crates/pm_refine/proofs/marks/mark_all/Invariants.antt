use Rattle.std.proofs.Common.{◌≡◌, length, take}
use Rattle.pm_base.specs.Counts.{set_of}
use Rattle.pm_candidates.specs.Candidates.{is_among}
use Rattle.pm_refine.specs.Holding.{Joins}
use Rattle.pm_refine.proofs.marks.mark_all.Given as goal

abbrev pub invariant-loop-need : goal.invariant-loop-need
invariant-loop-need l = record {
  len : length l.marks.items ≡ length l.fn.marks.items;
  marked : Joins (set_of l.fn.marks.items) (set_of l.marks.items)
      (is_among (take l.need-index l.needed));
}
