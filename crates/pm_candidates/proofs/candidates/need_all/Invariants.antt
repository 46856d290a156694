use Rattle.std.proofs.Common.{take}
use Rattle.pm_candidates.specs.Needed.{AreRaised}
use Rattle.pm_candidates.specs.Candidates.{is_among, AreCleared}
use Rattle.pm_candidates.proofs.candidates.need_all.Given as goal

abbrev pub invariant-loop-need : goal.invariant-loop-need
invariant-loop-need l = record {
  counts : AreRaised l.fn.needs l.needs (take l.need-index l.needed);
  unneeded : AreCleared l.fn.unneeded l.unneeded (is_among (take l.need-index l.needed));
}
