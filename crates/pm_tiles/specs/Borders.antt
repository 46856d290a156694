-- What it means that two meshes have the same border, that a front shows a mesh's border, and that
-- the vertices on a border are kept.
use Rattle.std.specs.Prelude.{◌≡◌, ℕ, Bool, true, slice_index_or}
use Rattle.pm_base.specs.Place.{Place, origin}
use Rattle.pm_base.specs.Meshes.{Mesh}
use Rattle.pm_base.specs.Sides.{Net, to, net_of, IsBorder, IsBorderSide}
use Rattle.pm_forest.specs.Forest.{Hierarchy}
use Rattle.pm_forest.specs.Places.{place_of_node}
use Rattle.pm_firm.specs.Firm.{shown_net}

-- The border sides of two meshes stand for each other, one for one, and two that do run between
-- the same two places. `at` tells where the vertices of the first mesh are, `there` those of the
-- second.
pub record IsSameBorder (m n : Net) (at there : ℕ → Place) : Type 0 where
  pub side : ℕ → ℕ
  pub stands : (e : ℕ) → IsBorderSide m e → IsBorderSide n (side e)
  pub all : (g : ℕ) → IsBorderSide n g → (e : ℕ) × IsBorderSide m e × (side e ≡ g)
  pub once : (e g : ℕ) → IsBorderSide m e → IsBorderSide m g → side e ≡ side g → e ≡ g
  pub begins : (e : ℕ) → IsBorderSide m e → there (n.from (side e)) ≡ at (m.from e)
  pub ends : (e : ℕ) → IsBorderSide m e → there (to n (side e)) ≡ at (to m e)

-- The place of vertex v of a mesh.
abbrev pub place_in : Mesh → ℕ → Place
place_in m v = slice_index_or m.points v origin

-- What the front of these records shows has the border of the mesh: its sides, each between the
-- places that it has in the mesh, and no other.
abbrev pub ShowsBorder : Hierarchy → (ℕ → Bool) → Mesh → Type 0
ShowsBorder h T m = IsSameBorder (net_of m.faces) (shown_net h T) (place_in m) (place_of_node h)

-- Each vertex on the border of the mesh is kept.
abbrev pub KeepsBorder : (ℕ → Bool) → Mesh → Type 0
KeepsBorder kept m = (v : ℕ) → IsBorder (net_of m.faces) v → kept v ≡ true
