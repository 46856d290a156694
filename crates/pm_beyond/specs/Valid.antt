-- Valid hierarchies (Hoppe 1997; the part on borders is this project's own).
use Rattle.std.specs.Prelude.{ℕ, suc, ◌*◌, ◌<◌}
use Rattle.pm_base.specs.Sides.{NoSideTwice}
use Rattle.pm_forest.specs.Forest.{Hierarchy, record_count}
use Rattle.pm_forest.specs.Fronts.{below}
use Rattle.pm_forest.specs.Faces.{face_count}
use Rattle.pm_forest.specs.Rules.{HasShape}
use Rattle.pm_beyond.specs.Walks.{leaf_net, IsInner, IsOuter, Beyond, expected}

-- In the front of the records up to k, beyond each outer side of record k's faces stands exactly
-- the recorded neighbour, or nothing where none is recorded.
abbrev pub NeighboursStand : Hierarchy → ℕ → Type 0
NeighboursStand h k =
    (e : ℕ) → e < 3 * face_count h → IsOuter h k e → Beyond h (below (suc k)) e (expected h e)

-- In the same front the inner sides of record k's faces stand beyond each other; where it has one
-- face, nothing stands beyond its inner side.
abbrev pub InnerSidesMeet : Hierarchy → ℕ → Type 0
InnerSidesMeet h k =
    (e : ℕ) → e < 3 * face_count h → IsInner h k e → Beyond h (below (suc k)) e (expected h e)

-- Record k is as told: its neighbours stand where they are recorded, and its inner sides meet.
abbrev pub IsAsTold : Hierarchy → ℕ → Type 0
IsAsTold h k = NeighboursStand h k × InnerSidesMeet h k

-- A hierarchy is valid if it has the right shape, no directed side stands twice in its leaf mesh,
-- and each record is as told.
pub record IsValid (h : Hierarchy) : Type 0 where
  pub shape : HasShape h
  pub no_side_twice : NoSideTwice (leaf_net h)
  pub outer : (k : ℕ) → k < record_count h → NeighboursStand h k
  pub inner : (k : ℕ) → k < record_count h → InnerSidesMeet h k

-- Record k is the last one that isn't as told.
pub record IsLastToFail (h : Hierarchy) (k : ℕ) : Type 0 where
  pub is_record : k < record_count h
  pub fails : IsAsTold h k → ⊥
  pub later : (j : ℕ) → k < j → j < record_count h → IsAsTold h j
