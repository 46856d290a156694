-- The mesh that is being simplified, as contracts see it.
use Rattle.std.specs.Prelude.{◌≡◌, ℕ, ◌+◌, ◌≤◌, true, List, [], length, slice_index_or, ◌↔◌}
use Rattle.pm_base.specs.declared.limits.TheConstants.{MOST_FACES, MOST_NODES}
use Rattle.pm_base.specs.Sides.{Net, Stands}
use Rattle.pm_base.specs.Fans.{IsOrientedManifold}
use Rattle.pm_links.specs.Lists.{has, IsOnce}
use Rattle.pm_runs.specs.Surfaces.{Surface, next_vertex, net_of_surface, face_count_of, IsSurface}
use Rattle.pm_runs.specs.Merged.{IsProper}

-- The surface; and by vertex number the corners of its faces, in an order of the type's own. Past
-- the next vertex the list says nothing.
pub record Shrinking : Type 0 where
  pub surface : Surface
  pub corners : List (List ℕ)

-- The sides of the faces that are there.
abbrev pub net_at : Shrinking → Net
net_at s = net_of_surface s.surface

-- The corners at a vertex.
abbrev pub fan_at : Shrinking → ℕ → List ℕ
fan_at s v = slice_index_or s.corners v []

-- The list has each corner that is at vertex v in a face that is there, once.
pub record AreCornersAt (m : Net) (v : ℕ) (corners : List ℕ) : Type 0 where
  pub each : (e : ℕ) → (has corners e ≡ true) ↔ (Stands m e × (m.from e ≡ v))
  pub once : IsOnce corners

-- What holds of every `Shrink`.
pub record IsKept (s : Shrinking) : Type 0 where
  pub short : length s.surface.faces ≤ MOST_FACES
  pub room : next_vertex s.surface + face_count_of s.surface ≤ MOST_NODES
  pub surface : IsSurface s.surface
  pub proper : IsProper (net_at s)
  pub manifold : IsOrientedManifold (net_at s)
  pub corners : (v : ℕ) → AreCornersAt (net_at s) v (fan_at s v)
