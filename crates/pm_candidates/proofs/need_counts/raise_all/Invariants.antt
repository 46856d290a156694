use Rattle.std.proofs.Common.{take}
use Rattle.pm_candidates.specs.Needed.{AreRaised}
use Rattle.pm_candidates.proofs.need_counts.raise_all.Given as goal

abbrev pub invariant-loop-need : goal.invariant-loop-need
invariant-loop-need l = AreRaised l.fn.needs l.needs (take l.need-index l.needed)
