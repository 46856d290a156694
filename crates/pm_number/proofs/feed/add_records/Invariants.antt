use Rattle.std.proofs.Common.{◌≡◌}
use Rattle.pm_number.specs.Tables.{hierarchy_by, took_records}
use Rattle.pm_number.proofs.feed.add_records.Given as goal

abbrev pub invariant-loop-k : goal.invariant-loop-k
invariant-loop-k l = l.shaper ≡ took_records (hierarchy_by l.numbers) l.k
