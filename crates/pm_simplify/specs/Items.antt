-- How edges are numbered in the queue: by the number of one of their sides.
use Rattle.std.specs.Prelude.{◌≡◌, ℕ, nat_lt, Option, Some, None, cond, ◌⊎◌}
use Rattle.pm_base.specs.Sides.{Net, to, Stands, twin_of}

-- The lesser of a side and what stands across it.
abbrev pub lesser_of_pair : ℕ → Option ℕ → ℕ
lesser_of_pair e None = e
lesser_of_pair e (Some g) = cond (nat_lt g e) g e

-- The number of the edge of a side: that of the side or of its twin, whichever is less.
unfoldable pub item_of : Net → ℕ → ℕ
item_of m e = lesser_of_pair e (twin_of m e)

-- Side e of a face that is there runs from v or to v.
pub record IsSideAt (m : Net) (v e : ℕ) : Type 0 where
  pub stands : Stands m e
  pub ends : (m.from e ≡ v) ⊎ (to m e ≡ v)
