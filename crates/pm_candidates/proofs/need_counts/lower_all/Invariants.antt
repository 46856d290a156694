use Rattle.std.proofs.Common.{take}
use Rattle.pm_candidates.specs.Needed.{AreRaised}
use Rattle.pm_candidates.proofs.need_counts.lower_all.Given as goal

abbrev pub invariant-loop-need : goal.invariant-loop-need
invariant-loop-need l = AreRaised l.needs l.fn.needs (take l.need-index l.needed)
