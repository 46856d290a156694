use Rattle.std.proofs.Common.{◌≡◌, length}
use Rattle.pm_fine_costs.proofs.PointLaws.{HavePoints, HaveNone}
use Rattle.pm_fine_costs.proofs.first.add_points.Given as goal

abbrev pub invariant-loop-v : goal.invariant-loop-v
invariant-loop-v l = record {
  len : length l.quadrics.items ≡ length l.points;
  done : HavePoints l.fn.quadrics.items l.quadrics.items l.points l.v;
  left : HaveNone l.fn.quadrics.items l.quadrics.items l.v;
}
