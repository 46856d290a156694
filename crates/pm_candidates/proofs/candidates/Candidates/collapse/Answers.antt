use Rattle.std.proofs.Common.{sym, subst}
use Rattle.pm_forest.specs.Fronts.{without}
use Rattle.pm_base.specs.Counts.{set_of}
use Rattle.pm_candidates.specs.Needed.{is_unneeded, AreNeedCounts}
use Rattle.pm_candidates.specs.Candidates.{AreAnswers, AreCandidates}
use Rattle.pm_beyond.proofs.PlanSteps.{without-same}
use Rattle.pm_candidates.proofs.UnneededLaws.{with-without, unneeded-without}
use Rattle.pm_candidates.proofs.CountedLaws.{needs_counted, counts_without}
use Rattle.pm_candidates.proofs.candidates.Candidates.collapse.Goals as goal

pub free_all-requires-clause-counted : goal.free_all-requires-clause-counted
free_all-requires-clause-counted c =
    let h = c.args.h.now in
    let T = set_of c.args.flags.now in
    let k = c.args.k in
    let before = subst (AreCandidates h T) (sym c.self.view_is) c.requires.candidates in
    let counts =
    subst (λ S. AreNeedCounts h S c.self.inside.needs)
    (sym (with-without T k c.requires.is_split)) before.counts in
    needs_counted h (without T k) k c.requires.record (without-same T k) c.args.needed.now
    c.requires.needed.times c.self.inside.needs counts

pub returns : goal.returns
returns c =
    let h = c.args.h.now in
    let T = set_of c.args.flags.now in
    let k = c.args.k in
    let before = subst (AreCandidates h T) (sym c.self.view_is) c.requires.candidates in
    let put = subst (λ S. AreNeedCounts h S c.self.inside.needs)
    (sym (with-without T k c.requires.is_split)) before.counts in
    let counts =
    counts_without h (without T k) k c.requires.record (without-same T k) c.args.needed.now
    c.requires.needed.times _ _ put c.free_all.ensures.counts in
    let waiting =
    c.wait_above.ensures T c.requires.closed c.requires.is_split before.waiting in
    let unneeded =
    unneeded-without h c.invariant.ensures T c.requires.closed k c.requires.record
    c.requires.is_split _ _ c.args.needed.now c.requires.needed.times c.free_all.new.needs counts
    before.unneeded c.free_all.ensures.unneeded in
    record {
      counts = counts;
      waiting = waiting;
      unneeded = subst (AreAnswers h (is_unneeded h (without T k))) (sym c.remove.ensures) unneeded;
    }
