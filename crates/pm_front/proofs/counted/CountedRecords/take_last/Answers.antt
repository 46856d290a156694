use Rattle.std.proofs.Common.{◌≡◌, ◌<◌, false, length, set, sym, subst, ap, ◌∙◌, arith}
use Rattle.std.specs.Prelude.{IfSome}
use Rattle.std.specs.List.{All}
use Rattle.pm_base.specs.Counts.{set_of}
use Rattle.pm_sets.specs.Sets.{IsLast}
use Rattle.pm_sets.proofs.FlagLaws.{in_below}
use Rattle.pm_forest.specs.Forest.{record_count}
use Rattle.pm_forest.specs.Fronts.{without}
use Rattle.pm_forest.proofs.Flags.{set_of-clear}
use Rattle.pm_beyond.proofs.PlanSteps.{without-same}
use Rattle.pm_candidates.specs.Needed.{AreNeedCounts}
use Rattle.pm_front.specs.Counted.{CountedRecords}
use Rattle.pm_candidates.proofs.UnneededLaws.{with-without}
use Rattle.pm_candidates.proofs.CountedLaws.{needs_counted, counts_without}
use Rattle.pm_front.proofs.counted.CountedRecords.take_last.Goals as goal

pub needed_by-requires : goal.needed_by-requires
needed_by-requires c =
    let len = subst (λ (s : CountedRecords). length s.records ≡ record_count c.args.front.now.h)
    (sym c.self.view_is) c.requires.len in
    let low = in_below c.self.inside.records c.in_ok-k.k c.in_ok-k.ensures.some.there in
    omega arith

pub lower_all-requires-clause-there : goal.lower_all-requires-clause-there
lower_all-requires-clause-there c =
    let counts =
    subst (λ (s : CountedRecords). AreNeedCounts c.args.front.now.h (set_of s.records) s.needs)
    (sym c.self.view_is) c.requires.counts in
    subst (λ n. All (λ need. IfSome need (λ j. j < n)) c.needed_by.result) (sym counts.len)
    c.needed_by.ensures.there

pub lower_all-requires-clause-counted : goal.lower_all-requires-clause-counted
lower_all-requires-clause-counted c =
    let h = c.args.front.now.h in
    let T = set_of c.self.inside.records in
    let k = c.in_ok-k.k in
    let there = c.in_ok-k.ensures.some.there in
    let before =
    subst (λ (s : CountedRecords). AreNeedCounts h (set_of s.records) s.needs)
    (sym c.self.view_is) c.requires.counts in
    let counts =
    subst (λ S. AreNeedCounts h S c.self.inside.needs) (sym (with-without T k there)) before in
    let low = in_below c.self.inside.records k there in
    let len = subst (λ (s : CountedRecords). length s.records ≡ record_count h) (sym c.self.view_is)
    c.requires.len in
    needs_counted h (without T k) k (omega arith) (without-same T k) c.needed_by.result
    c.needed_by.ensures.times c.self.inside.needs counts

pub returns-clause-counts : goal.returns-clause-counts
returns-clause-counts c =
    let h = c.args.front.now.h in
    let T = set_of c.self.inside.records in
    let k = c.in_ok-k.k in
    let there = c.in_ok-k.ensures.some.there in
    let before =
    subst (λ (s : CountedRecords). AreNeedCounts h (set_of s.records) s.needs)
    (sym c.self.view_is) c.requires.counts in
    let counts =
    subst (λ S. AreNeedCounts h S c.self.inside.needs) (sym (with-without T k there)) before in
    let low = in_below c.self.inside.records k there in
    let len = subst (λ (s : CountedRecords). length s.records ≡ record_count h) (sym c.self.view_is)
    c.requires.len in
    let taken = ap set_of c.in_ok-k.ensures.taken ∙ set_of-clear c.self.inside.records k low in
    subst (λ S. AreNeedCounts h S c.lower_all.new.needs) (sym taken)
    (counts_without h (without T k) k (omega arith) (without-same T k) c.needed_by.result
    c.needed_by.ensures.times _ _ counts c.lower_all.ensures)

pub returns-clause-some : goal.returns-clause-some
returns-clause-some c =
    subst (λ (s : CountedRecords). IsLast s.records (length s.records) c.in_ok-k.k) c.self.view_is
    c.in_ok-k.ensures.some

pub returns-clause-taken : goal.returns-clause-taken
returns-clause-taken c =
    c.in_ok-k.ensures.taken ∙ ap (λ (s : CountedRecords). set s.records c.in_ok-k.k false)
    c.self.view_is
