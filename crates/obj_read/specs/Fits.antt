-- What a line gives, put into a mesh.
use Rattle.std.specs.Prelude.{ℕ, ◌<◌, [], ◌∷◌, ◌++◌}
use Rattle.pm_base.specs.declared.limits.TheConstants.{MOST_FACES, MOST_VERTICES}
use Rattle.pm_base.specs.Meshes.{Mesh, IsFace}
use Rattle.obj_read.specs.declared.found.Found.{Found}
use Rattle.obj_read.specs.declared.found.Found.TheVariants as found

-- The mesh with what a line gives.
abbrev pub with_found : Mesh → Found → Mesh
with_found m found.Nothing = m
with_found m (found.Vertex p) = record { points = m.points ++ p ∷ []; faces = m.faces }
with_found m (found.Face f) = record { points = m.points; faces = m.faces ++ f ∷ [] }

-- After so many vertices and faces there is room for what a line gives, and a face has three of the
-- vertices.
abbrev pub Fits : ℕ → ℕ → Found → Type 0
Fits vertices faces found.Nothing = Unit {0}
Fits vertices faces (found.Vertex p) = vertices < MOST_VERTICES
Fits vertices faces (found.Face f) = (faces < MOST_FACES) × IsFace vertices f
