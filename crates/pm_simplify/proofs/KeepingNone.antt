-- A run that keeps nothing is the run to that number of faces.
use Rattle.std.proofs.Common.{ℕ, List, []}
use Rattle.pm_base.specs.declared.log.Collapse.{Collapse}
use Rattle.pm_base.specs.Meshes.{Mesh}
use Rattle.pm_runs.specs.Runs.{IsRunTo}
use Rattle.pm_keeping.specs.Keeping.{IsRunKeeping}
use Rattle.pm_keeping.proofs.KeepingNone.{keeping_none_is_the_run}
use Rattle.pm_keeping.specs.Keeping.{kept_in}

pub none_run : (m : Mesh) (target : ℕ) (log : List Collapse)
    → IsRunKeeping (kept_in []) m target log → IsRunTo m target log
unfolding kept_in
none_run m target log run = (keeping_none_is_the_run m target log).0 run
