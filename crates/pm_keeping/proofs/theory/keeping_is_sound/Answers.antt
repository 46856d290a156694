use Rattle.pm_keeping.proofs.OneRun as runs
use Rattle.pm_keeping.proofs.KeepingNone as none
use Rattle.pm_keeping.proofs.Building as building
use Rattle.pm_keeping.proofs.theory.keeping_is_sound.Goals as goal

pub returns : goal.returns
returns c = record {
  one = runs.one_run_keeping;
  none = none.keeping_none_is_the_run;
  built = building.runs_keeping_are_built;
}
