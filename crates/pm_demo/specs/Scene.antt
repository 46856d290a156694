-- A hierarchy that is looked at, and the tools that adapt its fronts.
use Rattle.std.specs.Prelude.{◌≡◌, ℕ, Bool, List}
use Rattle.pm_forest.specs.Forest.{Hierarchy, record_count}
use Rattle.pm_deviation.specs.Deviations.{Measures, AreMeasuresOf}

-- The hierarchy, and a flag for each record that is set where it is split.
pub record SceneShown : Type 0 where
  pub h : Hierarchy
  pub flags : List Bool

-- The measures are those of the hierarchy, and the refiner has room for its records.
pub record AreSceneTools (h : Hierarchy) (measures : Measures) (room : ℕ) : Type 0 where
  pub are_its_measures : AreMeasuresOf h measures
  pub room_fits : room ≡ record_count h
