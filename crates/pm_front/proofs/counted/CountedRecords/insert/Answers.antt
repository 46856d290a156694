use Rattle.std.proofs.Common.{◌≡◌, false, length, sym, subst, ap, ◌∙◌, arith}
use Rattle.pm_base.specs.Counts.{set_of}
use Rattle.pm_forest.specs.Forest.{record_count}
use Rattle.pm_forest.proofs.Flags.{set_of-set}
use Rattle.pm_candidates.specs.Needed.{AreNeedCounts}
use Rattle.pm_front.specs.Counted.{CountedRecords}
use Rattle.pm_candidates.proofs.CountedLaws.{room_left, counts_with}
use Rattle.pm_front.proofs.counted.CountedRecords.insert.Goals as goal

pub raise_all-requires-clause-room : goal.raise_all-requires-clause-room
raise_all-requires-clause-room c =
    let h = c.args.h.now in
    let k = c.args.k in
    let absent =
    subst (λ (s : CountedRecords). set_of s.records k ≡ false) (sym c.self.view_is)
    c.requires.absent in
    let counts =
    subst (λ (s : CountedRecords). AreNeedCounts h (set_of s.records) s.needs)
    (sym c.self.view_is) c.requires.counts in
    room_left h (set_of c.self.inside.records) k c.requires.record absent c.args.needed.now
    c.requires.needed.times c.invariant.ensures c.self.inside.needs counts

pub returns-clause-counts : goal.returns-clause-counts
returns-clause-counts c =
    let h = c.args.h.now in
    let k = c.args.k in
    let records = c.self.inside.records in
    let absent =
    subst (λ (s : CountedRecords). set_of s.records k ≡ false) (sym c.self.view_is)
    c.requires.absent in
    let counts =
    subst (λ (s : CountedRecords). AreNeedCounts h (set_of s.records) s.needs)
    (sym c.self.view_is) c.requires.counts in
    let len = subst (λ (s : CountedRecords). length s.records ≡ record_count h) (sym c.self.view_is)
    c.requires.len in
    let put = ap set_of c.insert.ensures
    ∙ set_of-set records k (omega (arith, len, c.requires.record)) in
    subst (λ T. AreNeedCounts h T c.raise_all.new.needs) (sym put)
    (counts_with h (set_of records) k c.requires.record absent c.args.needed.now
    c.requires.needed.times _ _ counts c.raise_all.ensures)
