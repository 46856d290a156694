use Rattle.std.proofs.Common.{◌∙◌}
use Rattle.pm_number.specs.Tables.{run_by}
use Rattle.pm_number.proofs.FromLog.{expects_nothing, not_past, whole_is}
use Rattle.pm_number.proofs.feed.hierarchy.Goals as goal

pub done-requires : goal.done-requires
done-requires c = expects_nothing (run_by c.args.numbers.now) c.add_records.ensures

pub unreachable-requires : goal.unreachable-requires
unreachable-requires c =
    not_past c.requires.run c.add_records.ensures c.in_default.ensures.fault

pub returns-clause-value : goal.returns-clause-value
returns-clause-value c =
    c.in-Ok.ensures.whole ∙ whole_is (run_by c.args.numbers.now) c.add_records.ensures
