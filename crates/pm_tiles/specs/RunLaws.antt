-- What the hierarchy of a run has for vertices that no collapse takes, each law as a statement.
use Rattle.std.specs.Prelude.{ℕ, ◌<◌, Bool, List, length}
use Rattle.pm_base.specs.Meshes.{Mesh}
use Rattle.pm_base.specs.Sides.{net_of, IsBorder}
use Rattle.pm_base.specs.declared.log.Collapse.{Collapse}
use Rattle.pm_runs.specs.Runs.{IsStartOfRun, IsRun}
use Rattle.pm_runs.specs.Counts.{IsSpared}
use Rattle.pm_forest.specs.Rules.{HasShape}
use Rattle.pm_beyond.specs.Moves.{IsClosed}
use Rattle.pm_number.specs.Stages.{run_of}
use Rattle.pm_number.specs.Numbering.{leaf_number, hierarchy_of_run}
use Rattle.pm_tiles.specs.Fixed.{IsFixed, HasFixedBorder}
use Rattle.pm_tiles.specs.Borders.{ShowsBorder}

-- A vertex of the mesh that no collapse takes is a fixed leaf.
abbrev pub SparedVerticesAreFixed : Type 0
SparedVerticesAreFixed =
    (m : Mesh) → IsStartOfRun m → (log : List Collapse) → IsRun m log → (v : ℕ) →
    v < length m.points → IsSpared v log →
    IsFixed (hierarchy_of_run m log) (leaf_number (run_of m log) v)

-- No collapse takes a vertex on the border.
abbrev pub SparesBorder : Mesh → List Collapse → Type 0
SparesBorder m log = (v : ℕ) → IsBorder (net_of m.faces) v → IsSpared v log

-- Then the hierarchy has a fixed border.
abbrev pub SparedBordersAreFixed : Type 0
SparedBordersAreFixed =
    (m : Mesh) → IsStartOfRun m → (log : List Collapse) → IsRun m log → SparesBorder m log →
    HasFixedBorder (hierarchy_of_run m log)

-- So every closed front of such a hierarchy shows the border of the mesh that the run began with:
-- its sides, each between the same places, no other.
abbrev pub SparedBordersAreShown : Type 0
SparedBordersAreShown =
    (m : Mesh) → IsStartOfRun m → (log : List Collapse) → IsRun m log → SparesBorder m log →
    let h = hierarchy_of_run m log in
    HasShape h → (T : ℕ → Bool) → IsClosed h T → ShowsBorder h T m
