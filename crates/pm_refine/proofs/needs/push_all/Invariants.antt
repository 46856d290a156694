use Rattle.std.proofs.Common.{◌≡◌, length, take}
use Rattle.pm_base.specs.Counts.{set_of}
use Rattle.pm_candidates.specs.Candidates.{is_among}
use Rattle.pm_refine.specs.Holding.{Joins}
use Rattle.pm_refine.proofs.needs.push_all.Given as goal

abbrev pub invariant-loop-need : goal.invariant-loop-need
invariant-loop-need l = record {
  len : length l.work ≡ length l.fn.work;
  joined : Joins (set_of l.fn.work) (set_of l.work) (is_among (take l.need-index l.needed));
}
