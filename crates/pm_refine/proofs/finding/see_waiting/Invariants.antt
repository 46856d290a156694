use Rattle.std.proofs.Common.{◌+◌, ◌-◌, ◌≤◌}
use Rattle.pm_base.specs.Counts.{count, set_of}
use Rattle.pm_forest.specs.Forest.{record_count}
use Rattle.pm_forest.specs.Moves.{may_try}
use Rattle.pm_refine.specs.Aims.{aim_of}
use Rattle.pm_refine.specs.Holding.{HoldsBelow}
use Rattle.pm_refine.specs.Finding.{is_due_now}
use Rattle.pm_refine.proofs.finding.see_waiting.Given as goal

abbrev pub invariant-loop-k : goal.invariant-loop-k
invariant-loop-k g l = record {
  most : l.from ≤ record_count l.sight.front.now.h;
  seen : HoldsBelow (record_count l.sight.front.now.h)
      (is_due_now (aim_of l.sight)) l.from l.splits;
  cost : l.steps ≤ l.fn.steps + count (may_try l.sight.front.now.h (set_of l.sight.front.now.flags))
      l.from;
}

abbrev pub decreases-loop-k : goal.decreases-loop-k
decreases-loop-k g l = record_count l.sight.front.now.h - l.from
