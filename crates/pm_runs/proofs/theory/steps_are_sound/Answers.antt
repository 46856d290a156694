use Rattle.pm_runs.proofs.FirstCollapse.{first_collapse}
use Rattle.pm_runs.proofs.StepLaws as law
use Rattle.pm_runs.proofs.theory.steps_are_sound.Goals as goal

pub returns : goal.returns
returns c = record {
  meshes = law.meshes_are_surfaces;
  merges = law.collapses_are_merges;
  found = law.sides_are_found;
  thirds = law.thirds_are_common;
  pairs = law.pairs_have_no_order;
  links = law.linkable_is_legal;
  kept = law.steps_keep_surfaces;
  moved = law.steps_move_nothing_else;
  legality = law.legality_is_local;
  local = law.steps_are_local;
  neighbours = law.neighbours_are_kept;
  sides = law.other_sides_stay;
  counted = law.faces_are_counted;
  manifold = law.legal_steps_keep_manifolds;
  example = first_collapse;
}
