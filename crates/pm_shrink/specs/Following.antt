-- How a mesh that is being simplified follows a run of collapses.
use Rattle.std.specs.Prelude.{◌≡◌, List}
use Rattle.pm_base.specs.declared.log.Collapse.{Collapse}
use Rattle.pm_base.specs.Meshes.{Mesh}
use Rattle.pm_runs.specs.Runs.{IsStartOfRun, IsRun, surface_after}
use Rattle.pm_shrink.specs.Shrinking.{Shrinking}

-- It is the input mesh after the collapses of a log.
pub record IsAfter (m : Mesh) (log : List Collapse) (s : Shrinking) : Type 0 where
  pub start : IsStartOfRun m
  pub run : IsRun m log
  pub surface : s.surface ≡ surface_after m log
