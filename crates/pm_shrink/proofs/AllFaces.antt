-- The surface of a whole mesh: its sides are those of the mesh.
use Rattle.std.proofs.Common.{◌≡◌, ℕ, List, get_or, map, Some, None}
use Rattle.std.proofs.lemmas.Grind.{common_steps}
use Rattle.std.proofs.Common.{arith}
use Rattle.std.specs.Prelude.{unwrap_or}
use Rattle.std.proofs.lemmas.List.{length-map, get_or-map, get_or_past}
use Rattle.pm_base.specs.declared.mesh.Corners.{Corners}
use Rattle.pm_base.specs.Meshes.{Mesh}
use Rattle.pm_base.specs.Sides.{net_of, no_corners}
use Rattle.pm_runs.specs.Surfaces.{surface_of, net_of_surface}

face_there : (fs : List Corners) (f : ℕ) → unwrap_or (get_or (map Some fs) f None) no_corners
    ≡ get_or fs f no_corners
face_there fs f = grind (arith, common_steps, get_or-map, get_or_past, length-map)

pub net_there : (m : Mesh) → net_of_surface (surface_of m) ≡ net_of m.faces
net_there m = grind (arith, common_steps, face_there, length-map)
