-- Triangle meshes: a list of places, and a list of triples of vertex numbers (Hoppe 1996).
use Rattle.std.specs.Prelude.{ℕ, ◌≢◌, ◌<◌, ◌≤◌, List, length}
use Rattle.std.specs.List.{All}
use Rattle.pm_base.specs.declared.limits.TheConstants.{MOST_FACES, MOST_VERTICES}
use Rattle.pm_base.specs.Place.{Place}
use Rattle.pm_base.specs.declared.mesh.Corners.{Corners}
use Rattle.pm_base.specs.declared.mesh.Mesh.{Mesh as HeldMesh}

pub record Mesh : Type 0 where
  pub points : List Place
  pub faces : List Corners

-- The mesh that is held in memory, without the room of its lists.
abbrev pub mesh_of : HeldMesh → Mesh
mesh_of m = record { points = m.points.items; faces = m.faces.items }

-- A face over n points: each corner is the number of a point, and no two are the same.
pub record IsFace (n : ℕ) (f : Corners) : Type 0 where
  pub a : f.a < n
  pub b : f.b < n
  pub c : f.c < n
  pub ab : f.a ≢ f.b
  pub bc : f.b ≢ f.c
  pub ca : f.c ≢ f.a

pub record IsWellFormed (m : Mesh) : Type 0 where
  pub points : length m.points ≤ MOST_VERTICES
  pub faces : length m.faces ≤ MOST_FACES
  pub corners : All (IsFace (length m.points)) m.faces
