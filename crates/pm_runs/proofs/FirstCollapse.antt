-- The first collapse of the octahedron, by computing.
use Rattle.std.proofs.Common.{arith}
use Rattle.std.proofs.lemmas.Grind.{common_steps}
use Rattle.pm_base.specs.Sides.{next, stands, twin_of}
use Rattle.pm_runs.specs.Surfaces.{merge}
use Rattle.pm_runs.specs.Steps.{side_from_to}
use Rattle.pm_runs.specs.Planes.{planes_at}
use Rattle.pm_runs.specs.Octahedron.{octahedron, IsFirstCollapse}

pub first_collapse : IsFirstCollapse
unfolding octahedron next stands twin_of merge side_from_to planes_at
first_collapse = grind (arith, common_steps)
