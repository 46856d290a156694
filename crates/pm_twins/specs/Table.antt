-- The twins of a mesh as contracts see them.
use Rattle.std.specs.Prelude.{◌≡◌, ℕ, ◌<◌, Bool, true, false, Option, None, List, length}
use Rattle.std.specs.Prelude.{slice_index_or, ◌↔◌}
use Rattle.pm_base.specs.Sides.{Net, side_count, NoSideTwice, twin_of, IsBorder}

-- The twin of each side, and of each vertex whether it is on the border.
pub record Table : Type 0 where
  pub twins : List (Option ℕ)
  pub border : List Bool

abbrev pub twin_at : Table → ℕ → Option ℕ
twin_at t e = slice_index_or t.twins e None

abbrev pub border_at : Table → ℕ → Bool
border_at t v = slice_index_or t.border v false

-- A list of twins holds that of each side of mesh m.
pub record AreTwinsOf (m : Net) (twins : List (Option ℕ)) : Type 0 where
  pub sides : length twins ≡ side_count m
  pub each : (e : ℕ) → e < side_count m → slice_index_or twins e None ≡ twin_of m e

-- A list of flags says of each of the first n vertices of mesh m whether it is on the border.
pub record IsBorderOf (m : Net) (n : ℕ) (border : List Bool) : Type 0 where
  pub vertices : length border ≡ n
  pub each : (v : ℕ) → v < n → (slice_index_or border v false ≡ true) ↔ IsBorder m v

-- The table is that of mesh m with n vertices, in which no directed side stands twice.
pub record IsTableOf (m : Net) (n : ℕ) (t : Table) : Type 0 where
  pub once : NoSideTwice m
  pub twins : AreTwinsOf m t.twins
  pub border : IsBorderOf m n t.border
