use Rattle.std.proofs.Common.{◌≡◌, length}
use Rattle.pm_samples.proofs.meshes.at_origin.Given as goal

abbrev pub invariant-loop-point : goal.invariant-loop-point
invariant-loop-point l = length l.points.items ≡ l._point
