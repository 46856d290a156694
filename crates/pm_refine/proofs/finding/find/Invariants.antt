use Rattle.std.proofs.Common.{◌+◌, ◌*◌, ◌-◌, ◌≤◌}
use Rattle.pm_base.specs.Counts.{count, set_of}
use Rattle.pm_forest.specs.Forest.{record_count}
use Rattle.pm_forest.specs.Moves.{may_try}
use Rattle.pm_candidates.specs.Needed.{is_unneeded}
use Rattle.pm_refine.specs.Aims.{aim_of}
use Rattle.pm_refine.specs.Finding.{is_due, AreFound}
use Rattle.pm_refine.proofs.finding.find.Given as goal

abbrev pub invariant-loop-k : goal.invariant-loop-k
invariant-loop-k g l = record {
  found : AreFound (aim_of l.sight) l.from l.splits l.work;
  cost : l.steps ≤ l.fn.steps + count (may_try l.sight.front.now.h (set_of l.sight.front.now.flags))
      (record_count l.sight.front.now.h)
      + count (is_unneeded l.sight.front.now.h (set_of l.sight.front.now.flags))
      (record_count l.sight.front.now.h)
      + 2 * count (is_due (aim_of l.sight)) l.from;
}

abbrev pub decreases-loop-k : goal.decreases-loop-k
decreases-loop-k g l = record_count l.sight.front.now.h - l.from
