-- The moves of a plan, taken from the sets of their records.
use Rattle.std.specs.Prelude.{◌≡◌, ◌++◌, ℕ, Bool, List, length}
use Rattle.pm_forest.specs.Forest.{Hierarchy}
use Rattle.pm_base.specs.Counts.{set_of}
use Rattle.pm_beyond.specs.Plans.{Move, Split, Collapse, moved_by, AreLegal, ascending, descending}
use Rattle.pm_front.specs.Corners.{corner_lists_after}

-- The splits of the records of a set, ascending.
abbrev pub splits_of : List Bool → List Move
splits_of records = ascending Split (set_of records) (length records)

-- The collapses of the records of a set, descending.
abbrev pub collapses_of : List Bool → List Move
collapses_of records = descending Collapse (set_of records) (length records)

-- All moves of two sets.
abbrev pub moves_of : List Bool → List Bool → List Move
moves_of splits collapses = splits_of splits ++ collapses_of collapses

-- The moves are legal, and lead from a set of records and its corner lists to another one and its
-- own.
pub record AreToDo (h : Hierarchy) (T end : ℕ → Bool) (now then : List (List ℕ)) (ms : List Move) :
    Type 0 where
  pub legal : AreLegal h T ms
  pub ends : moved_by T ms ≡ end
  pub corners : corner_lists_after h T ms now ≡ then
