use Rattle.std.proofs.Common.{sym}
use Rattle.pm_prefix.specs.Tables.{whole, hierarchy_by}
use Rattle.pm_prefix.proofs.Parts.{record_count-first}
use Rattle.pm_prefix.proofs.FeedLaws.{expects_nothing, not_past}
use Rattle.pm_prefix.proofs.Feeding.{shaped}
use Rattle.pm_prefix.proofs.units.Prefix.hierarchy.Goals as goal

pub done-requires : goal.done-requires
done-requires c =
    let p = c.args.self.now in
    expects_nothing (hierarchy_by p) (shaped p c.requires) p.n
    (sym (record_count-first (whole p) p.n)) c.add_records.ensures

pub unreachable-requires : goal.unreachable-requires
unreachable-requires c =
    let p = c.args.self.now in
    not_past (hierarchy_by p) (shaped p c.requires) p.n (sym (record_count-first (whole p) p.n))
    c.add_records.ensures c.in_default.ensures.fault
