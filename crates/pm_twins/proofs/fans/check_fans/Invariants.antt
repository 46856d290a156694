use Rattle.std.proofs.Common.{ℕ, ◌<◌}
use Rattle.pm_base.specs.Sides.{net_of}
use Rattle.pm_base.specs.Fans.{IsFan}
use Rattle.pm_twins.proofs.fans.check_fans.Given as goal

abbrev pub invariant-loop-v : goal.invariant-loop-v
invariant-loop-v l = (v : ℕ) → v < l.v → IsFan (net_of l.mesh.faces.items) v
