use Rattle.pm_base.specs.Sides.{net_of}
use Rattle.pm_fans.specs.Ends.{AreNoted}
use Rattle.pm_fans.proofs.glue.note_sides.Given as goal

abbrev pub invariant-loop-number : goal.invariant-loop-number
invariant-loop-number l = AreNoted (net_of l.faces) l.number l.sides
