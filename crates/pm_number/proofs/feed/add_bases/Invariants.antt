use Rattle.std.proofs.Common.{◌≡◌}
use Rattle.pm_number.specs.Tables.{hierarchy_by, took_bases}
use Rattle.pm_number.proofs.feed.add_bases.Given as goal

abbrev pub invariant-loop-i : goal.invariant-loop-i
invariant-loop-i l = l.shaper ≡ took_bases (hierarchy_by l.numbers) l.i
