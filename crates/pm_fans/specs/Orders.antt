-- Vertices split by their fans, in one order.
use Rattle.std.specs.Prelude.{◌≡◌, ℕ, ◌<◌, ◌≤◌, ◌⊎◌, List, length, slice_index_or}
use Rattle.pm_base.specs.declared.mesh.Corners.{Corners}
use Rattle.pm_base.specs.Sides.{Net, net_of, side_count, Stands}
use Rattle.pm_base.specs.Fans.{IsUsed}
use Rattle.pm_fans.specs.Splits.{IsGlued, IsSplitByFans}

-- An open chain of sides round a vertex begins here: the side is glued to none, so none is followed
-- by it.
abbrev pub IsFirstSide : Net → ℕ → Type 0
IsFirstSide m e = (g : ℕ) → IsGlued m e g → ⊥

-- The sides at the new vertex of this one are a closed chain, and it is the least of them.
abbrev pub IsLeastSide : Net → Net → ℕ → Type 0
IsLeastSide m n e = (g : ℕ) → Stands m g → n.from g ≡ n.from e → (IsFirstSide m g → ⊥) × (e ≤ g)

-- The side by which the new vertex has its number.
abbrev pub IsHead : Net → Net → ℕ → Type 0
IsHead m n e = IsFirstSide m e ⊎ IsLeastSide m n e

-- Of two sides with one old vertex: that of an open chain before that of a closed one, and else the
-- lesser one.
abbrev pub ComesFirst : Net → Net → ℕ → ℕ → Type 0
ComesFirst m n e g =
    (IsFirstSide m e × IsLeastSide m n g)
    ⊎ (((IsFirstSide m e × IsFirstSide m g) ⊎ (IsLeastSide m n e × IsLeastSide m n g)) × (e < g))

abbrev pub Precedes : Net → Net → ℕ → ℕ → Type 0
Precedes m n e g = (m.from e < m.from g) ⊎ ((m.from e ≡ m.from g) × ComesFirst m n e g)

-- New vertices are numbered by the old one, then open chains before closed ones, then by their
-- heads.
abbrev pub IsOrdered : Net → Net → Type 0
IsOrdered m n = (e g : ℕ) → Stands m e → Stands m g → IsHead m n e → IsHead m n g
    → n.from e < n.from g → Precedes m n e g

-- The faces of m with new vertices, and the old vertex of each new one.
pub record IsSplitMesh (m : Net) (faces : List Corners) (old : List ℕ) : Type 0 where
  pub split : IsSplitByFans m (net_of faces)
  pub ordered : IsOrdered m (net_of faces)
  -- every new vertex has a side, and there is no other vertex
  pub used : (v : ℕ) → v < length old → IsUsed (net_of faces) v
  pub within : (e : ℕ) → e < side_count m → (net_of faces).from e < length old
  pub back : (e : ℕ) → e < side_count m → slice_index_or old ((net_of faces).from e) 0 ≡ m.from e
