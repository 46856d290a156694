use Rattle.std.proofs.Common.{◌*◌}
use Rattle.pm_base.specs.Sides.{net_of}
use Rattle.pm_twins.specs.SideLists.{AreListed}
use Rattle.pm_twins.proofs.side_lists.list_sides.Given as goal

abbrev pub invariant-loop-f : goal.invariant-loop-f
invariant-loop-f l = AreListed (net_of l.faces) l.vertices (3 * l.f) l.lasts.items l.links
