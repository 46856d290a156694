use Rattle.std.proofs.Common.{◌≡◌, length}
use Rattle.pm_base.specs.Counts.{set_of}
use Rattle.pm_candidates.specs.Needed.{AreNeedCounts}
use Rattle.pm_refine.specs.Aims.{aim_of, sets_of}
use Rattle.pm_refine.specs.Deciding.{HasDecided}
use Rattle.pm_refine.proofs.SetLaws.{reach}
use Rattle.pm_refine.proofs.plan.Plan.decide_all.Given as goal

abbrev pub invariant-loop-k : goal.invariant-loop-k
invariant-loop-k g l = record {
  len : length l.self.marks.items ≡ length l.fn.self.marks.items;
  work_len : length l.self.work ≡ length l.fn.self.work;
  counts : AreNeedCounts l.sight.front.now.h (set_of l.self.collapses.records)
      l.self.collapses.needs;
  so_far : HasDecided (aim_of l.sight) (sets_of l.self) l.moves_found
      l.fn.steps l.steps;
}

abbrev pub decreases-loop-k : goal.decreases-loop-k
decreases-loop-k g l = reach l.self.work (length l.self.work)
