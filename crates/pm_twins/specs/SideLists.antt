-- The sides of a mesh in lists: for each vertex those that leave it, from the last to the first.
use Rattle.std.specs.Prelude.{◌≡◌, ℕ, ◌<◌, ◌==◌, Option, None, List, length, slice_index_or}
use Rattle.std.specs.Option.{option_map}
use Rattle.pm_base.specs.declared.ids.Side.{Side}
use Rattle.pm_base.specs.Sides.{Net, side_count, find_below, beside_side}

-- The last of the first k sides that leaves vertex v, if one does.
abbrev pub last_from : Net → ℕ → ℕ → Option ℕ
last_from m v k = find_below (λ e. m.from e == v) k

-- The last side before side e that leaves the same vertex.
abbrev pub link_of : Net → ℕ → Option ℕ
link_of m e = last_from m (m.from e) e

-- The first k sides are in the lists of the first n vertices: the last side of each vertex is
-- known, and for each side the one before it.
pub record AreListed (m : Net) (n k : ℕ) (lasts links : List (Option ℕ)) : Type 0 where
  pub vertices : length lasts ≡ n
  pub sides : length links ≡ side_count m
  pub last : (v : ℕ) → v < n → slice_index_or lasts v None ≡ last_from m v k
  pub each : (e : ℕ) → e < k → beside_side links e ≡ link_of m e

-- This is the last side that leaves vertex v.
abbrev pub IsLast : Net → ℕ → Option Side → Type 0
IsLast m v last = option_map (λ s. s.0) last ≡ last_from m v (side_count m)
