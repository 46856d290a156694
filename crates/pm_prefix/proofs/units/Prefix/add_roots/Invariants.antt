use Rattle.std.proofs.Common.{◌≡◌}
use Rattle.pm_prefix.specs.Tables.{hierarchy_by, took_roots}
use Rattle.pm_prefix.proofs.units.Prefix.add_roots.Given as goal

abbrev pub invariant-loop-v : goal.invariant-loop-v
invariant-loop-v l = l.shaper ≡ took_roots (hierarchy_by l.self) l.v
