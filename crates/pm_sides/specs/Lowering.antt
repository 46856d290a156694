-- A hierarchy that is being lowered from its full front to its base front, a record at a time.
use Rattle.std.specs.Prelude.{◌≡◌, ℕ, ◌<◌, ◌≤◌, Bool, List, Option, length}
use Rattle.pm_base.specs.Sides.{NoSideTwice}
use Rattle.pm_forest.specs.Forest.{Hierarchy, record_count}
use Rattle.pm_forest.specs.Fronts.{below}
use Rattle.pm_base.specs.Counts.{set_of}
use Rattle.pm_forest.specs.Rules.{HasShape}
use Rattle.pm_beyond.specs.Walks.{leaf_net}
use Rattle.pm_beyond.specs.Valid.{IsAsTold}
use Rattle.pm_sides.specs.Stored.{AreStored}

-- A hierarchy, and how many of its records are still split.
pub record Lowered : Type 0 where
  pub h : Hierarchy
  pub left : ℕ

-- The records below `left` are split, and all others are as told.
pub record IsLoweredTo (h : Hierarchy) (flags : List Bool) (left : ℕ) : Type 0 where
  pub most : left ≤ record_count h
  pub front : set_of flags ≡ below left
  pub told : (k : ℕ) → left ≤ k → k < record_count h → IsAsTold h k

-- What a lowering keeps: a flag for each record, and the table of what stands beyond each side.
pub record IsLowering (h : Hierarchy) (flags : List Bool) (table : List (Option ℕ)) (left : ℕ) :
    Type 0 where
  pub shape : HasShape h
  pub once : NoSideTwice (leaf_net h)
  pub flag_len : length flags ≡ record_count h
  pub lowered : IsLoweredTo h flags left
  pub beyond : AreStored h (set_of flags) table
