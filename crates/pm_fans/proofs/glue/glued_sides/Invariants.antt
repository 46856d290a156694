use Rattle.pm_base.specs.Sides.{net_of}
use Rattle.pm_fans.proofs.GlueLaws.{AreGluedTo}
use Rattle.pm_fans.proofs.glue.glued_sides.Given as goal

abbrev pub invariant-loop-number : goal.invariant-loop-number
invariant-loop-number l = AreGluedTo (net_of l.faces) l.number l.glued
