-- Meshes whose sides all stand.
use Rattle.std.specs.Prelude.{ℕ, ◌<◌, ◌≤◌}
use Rattle.pm_base.specs.declared.limits.TheConstants.{MOST_FACES, MOST_VERTICES}
use Rattle.pm_base.specs.Sides.{Net, side_count, Stands}

-- Every side stands, and its two vertices are among the first so many.
pub record IsWhole (m : Net) (vertices : ℕ) : Type 0 where
  pub short : m.faces ≤ MOST_FACES
  pub few : vertices ≤ MOST_VERTICES
  pub stands : (e : ℕ) → e < side_count m → Stands m e
  pub within : (e : ℕ) → e < side_count m → m.from e < vertices
