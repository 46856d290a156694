-- The laws of grids, each as a statement.
use Rattle.std.specs.Prelude.{◌≡◌, ℕ, ◌+◌, ◌*◌, ◌≤◌, length}
use Rattle.pm_base.specs.Sides.{net_of}
use Rattle.pm_base.specs.Meshes.{IsWellFormed}
use Rattle.pm_base.specs.Fans.{IsOrientedManifold}
use Rattle.pm_grid.specs.Grid.{grid}

-- A grid is an oriented manifold, by the fans of its corner, border and inner vertices.
abbrev pub GridsAreManifolds : Type 0
GridsAreManifolds = (n : ℕ) → 1 ≤ n → IsOrientedManifold (net_of (grid n).faces)

-- It has n + 1 rows of n + 1 points, and two faces a cell.
abbrev pub GridsAreCounted : Type 0
GridsAreCounted =
    (n : ℕ) → (length (grid n).points ≡ (n + 1) * (n + 1)) × (length (grid n).faces ≡ n * (n * 2))

-- It is a mesh within the limits: each corner is a point's number, and the corners of a face
-- differ.
abbrev pub GridsAreWellFormed : Type 0
GridsAreWellFormed = (n : ℕ) → 1 ≤ n → n ≤ 256 → IsWellFormed (grid n)
