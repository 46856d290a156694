use Rattle.pm_policies.proofs.PlanesTaken as planes
use Rattle.pm_policies.proofs.FirstSurfaces as surfaces
use Rattle.pm_policies.proofs.PlaneCounts as counts
use Rattle.pm_policies.proofs.Keys as keys
use Rattle.pm_policies.proofs.OneRun as runs
use Rattle.pm_policies.proofs.Building as building
use Rattle.pm_policies.proofs.SomeRuns as some_runs
use Rattle.pm_policies.proofs.PlainKeeping as same
use Rattle.pm_policies.proofs.theory.policies_are_sound.Goals as goal

pub returns : goal.returns
returns c = record {
  taken = planes.planes_are_taken;
  planes = planes.planes_stay_by;
  first = surfaces.planes_are_of_first_surfaces;
  few = counts.planes_are_few;
  keys = keys.keys_are_kept_by;
  local = keys.candidates_are_local_by;
  one = runs.one_run_by_a_policy;
  built = building.runs_by_are_built;
  some = some_runs.some_run_by_a_policy;
  plain = same.plain_run_is_the_run;
  keeping = same.plain_keeping_is_keeping;
}
