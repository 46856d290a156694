use Rattle.std.proofs.Common.{◌≡◌}
use Rattle.pm_number.specs.Tables.{hierarchy_by, took_roots}
use Rattle.pm_number.proofs.feed.add_roots.Given as goal

abbrev pub invariant-loop-i : goal.invariant-loop-i
invariant-loop-i l = l.shaper ≡ took_roots (hierarchy_by l.numbers) l.i
