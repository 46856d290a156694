use Rattle.std.proofs.Common.{◌≡◌, length}
use Rattle.pm_samples.proofs.meshes.mesh.Given as goal

abbrev pub invariant-loop-spot : goal.invariant-loop-spot
invariant-loop-spot l = length l.points.items ≡ l.spot-index
