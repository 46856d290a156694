-- What the opening of a hierarchy rests on: records are judged from the last one down, each in the
-- front of the records up to it.
use Rattle.std.specs.Prelude.{◌≡◌, ℕ, suc, ◌*◌, ◌<◌, ◌↔◌, ◌⊎◌, Some}
use Rattle.pm_base.specs.Sides.{NoSideTwice}
use Rattle.pm_forest.specs.Forest.{Hierarchy, record_count}
use Rattle.pm_forest.specs.Fronts.{below}
use Rattle.pm_forest.specs.Faces.{face_count, record_of}
use Rattle.pm_forest.specs.Rules.{HasShape}
use Rattle.pm_beyond.specs.Walks.{leaf_net, beyond_of, expected}
use Rattle.pm_beyond.specs.Valid.{IsAsTold, IsValid, IsLastToFail}

-- A record is as told exactly where what the walks find is what is expected.
abbrev pub ToldIsFound : Type 0
ToldIsFound =
    (h : Hierarchy) → HasShape h → NoSideTwice (leaf_net h) → (k : ℕ) → k < record_count h
    → IsAsTold h k
    ↔ ((e : ℕ) → e < 3 * face_count h → record_of h e ≡ Some k
    → beyond_of h (below (suc k)) e ≡ expected h e)

-- A hierarchy of the right shape, in whose leaf mesh no directed side stands twice, is valid where
-- each record is as told.
abbrev pub ValidWhereTold : Type 0
ValidWhereTold =
    (h : Hierarchy) → HasShape h → NoSideTwice (leaf_net h)
    → IsValid h ↔ ((k : ℕ) → k < record_count h → IsAsTold h k)

-- If it isn't, one record is the last that isn't as told.
abbrev pub ValidOrOneFails : Type 0
ValidOrOneFails =
    (h : Hierarchy) → HasShape h → NoSideTwice (leaf_net h)
    → (IsValid h ⊎ ((k : ℕ) × IsLastToFail h k))
    × ((j k : ℕ) → IsLastToFail h j → (IsValid h → ⊥) × (IsLastToFail h k → j ≡ k))
