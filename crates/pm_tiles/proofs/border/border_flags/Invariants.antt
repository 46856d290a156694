use Rattle.std.proofs.Common.{length}
use Rattle.pm_base.specs.Sides.{net_of}
use Rattle.pm_tiles.proofs.Flags.{AreSet}
use Rattle.pm_tiles.proofs.border.border_flags.Given as goal

-- The vertices below this one have their flags.
abbrev pub invariant-loop-vertex : goal.invariant-loop-vertex
invariant-loop-vertex l =
    AreSet (net_of l.surface.faces) (length l.surface.points) l.vertex l.flags.items
