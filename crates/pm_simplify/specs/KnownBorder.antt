-- Vertices that are noted as being on the border.
use Rattle.std.specs.Prelude.{◌≡◌, ◌<◌, ℕ, Bool, true, false, List, slice_index_or}
use Rattle.pm_base.specs.Sides.{IsBorder}
use Rattle.pm_runs.specs.Surfaces.{Surface, next_vertex, is_live, net_of_surface}

-- The flag of a vertex; past the list none is set.
abbrev pub is_noted : List Bool → ℕ → Bool
is_noted flags v = slice_index_or flags v false

-- The number was given to a vertex, which is on the border if it is still live.
pub record IsKnownBorder (s : Surface) (v : ℕ) : Type 0 where
  pub given : v < next_vertex s
  pub border : is_live s v ≡ true → IsBorder (net_of_surface s) v

-- So it is with each vertex that is noted.
abbrev pub AreOnBorder : Surface → List Bool → Type 0
AreOnBorder s flags = (v : ℕ) → is_noted flags v ≡ true → IsKnownBorder s v
