use Rattle.std.proofs.Common.{sym, subst}
use Rattle.pm_forest.specs.Fronts.{with}
use Rattle.pm_base.specs.Counts.{set_of}
use Rattle.pm_candidates.specs.Needed.{is_unneeded}
use Rattle.pm_candidates.specs.Candidates.{AreAnswers, AreCandidates}
use Rattle.pm_candidates.proofs.UnneededLaws.{unneeded-with}
use Rattle.pm_candidates.proofs.CountedLaws.{room_left, counts_with}
use Rattle.pm_candidates.proofs.candidates.Candidates.split.Goals as goal

pub need_all-requires-clause-room : goal.need_all-requires-clause-room
need_all-requires-clause-room c =
    let h = c.args.h.now in
    let T = set_of c.args.flags.now in
    let before = subst (AreCandidates h T) (sym c.self.view_is) c.requires.candidates in
    room_left h T c.args.k c.requires.record c.requires.unsplit c.args.needed.now
    c.requires.needed.times c.invariant.ensures c.self.inside.needs before.counts

pub returns : goal.returns
returns c =
    let h = c.args.h.now in
    let T = set_of c.args.flags.now in
    let k = c.args.k in
    let before = subst (AreCandidates h T) (sym c.self.view_is) c.requires.candidates in
    let waiting =
    c.wait_below.ensures T c.requires.closed c.requires.unsplit before.waiting in
    let unneeded =
    unneeded-with h c.invariant.ensures T c.requires.closed k c.requires.record
    c.requires.unsplit _ _ c.args.needed.now c.requires.needed.times before.unneeded
    c.need_all.ensures.unneeded in
    record {
      counts = counts_with h T k c.requires.record c.requires.unsplit c.args.needed.now
          c.requires.needed.times _ _ before.counts c.need_all.ensures.counts;
      waiting = waiting;
      unneeded = subst (AreAnswers h (is_unneeded h (with T k))) (sym c.insert.ensures) unneeded;
    }
