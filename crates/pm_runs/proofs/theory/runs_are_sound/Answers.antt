use Rattle.pm_runs.proofs.RunsProved as law
use Rattle.pm_runs.proofs.theory.runs_are_sound.Goals as goal

pub returns : goal.returns
returns c = record {
  grow = law.runs_grow;
  entries = law.entries_are_steps;
  proper = law.runs_stay_proper;
  live = law.spared_vertices_are_live;
  short = law.runs_are_short;
  planes = law.planes_stay;
  counts = law.planes_are_kept;
  keys = law.keys_are_kept;
  local = law.candidates_are_local;
  one = law.one_run_to_a_target;
  built = law.runs_are_built;
  merges = law.runs_are_merges;
  manifold = law.runs_stay_manifolds;
}
