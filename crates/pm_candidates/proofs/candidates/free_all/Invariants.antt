use Rattle.std.proofs.Common.{take}
use Rattle.pm_candidates.specs.Needed.{AreRaised}
use Rattle.pm_candidates.specs.Candidates.{is_freed, AreAdded}
use Rattle.pm_candidates.proofs.candidates.free_all.Given as goal

abbrev pub invariant-loop-need : goal.invariant-loop-need
invariant-loop-need l = record {
  counts : AreRaised l.needs l.fn.needs (take l.need-index l.needed);
  unneeded : AreAdded l.fn.unneeded l.unneeded (is_freed (take l.need-index l.needed) l.needs);
}
