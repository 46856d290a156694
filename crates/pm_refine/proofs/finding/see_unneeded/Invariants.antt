use Rattle.std.proofs.Common.{◌+◌, ◌-◌, ◌≤◌}
use Rattle.pm_base.specs.Counts.{count, set_of}
use Rattle.pm_forest.specs.Forest.{record_count}
use Rattle.pm_candidates.specs.Needed.{is_unneeded}
use Rattle.pm_refine.specs.Aims.{aim_of}
use Rattle.pm_refine.specs.Holding.{HoldsBelow}
use Rattle.pm_refine.specs.Finding.{is_loose}
use Rattle.pm_refine.proofs.finding.see_unneeded.Given as goal

abbrev pub invariant-loop-k : goal.invariant-loop-k
invariant-loop-k g l = record {
  most : l.from ≤ record_count l.sight.front.now.h;
  loose : HoldsBelow (record_count l.sight.front.now.h)
      (is_loose (aim_of l.sight)) l.from l.work;
  cost : l.steps ≤ l.fn.steps + count
      (is_unneeded l.sight.front.now.h (set_of l.sight.front.now.flags)) l.from;
}

abbrev pub decreases-loop-k : goal.decreases-loop-k
decreases-loop-k g l = record_count l.sight.front.now.h - l.from
