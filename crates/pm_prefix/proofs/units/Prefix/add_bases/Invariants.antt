use Rattle.std.proofs.Common.{◌≡◌}
use Rattle.pm_prefix.specs.Tables.{hierarchy_by, took_bases}
use Rattle.pm_prefix.proofs.units.Prefix.add_bases.Given as goal

abbrev pub invariant-loop-f : goal.invariant-loop-f
invariant-loop-f l = l.shaper ≡ took_bases (hierarchy_by l.self) l.f
