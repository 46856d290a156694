use Rattle.obj_scan.proofs.PolygonLaws.{HasLeast}
use Rattle.obj_scan.proofs.polygons.before_least.Given as goal

abbrev pub invariant-loop-i : goal.invariant-loop-i
invariant-loop-i l = HasLeast l.points l.corners l.i l.least
