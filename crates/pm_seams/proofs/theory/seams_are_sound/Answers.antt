use Rattle.pm_seams.proofs.Lists as lists
use Rattle.pm_seams.proofs.Alike as alike
use Rattle.pm_seams.proofs.Renaming as renaming
use Rattle.pm_seams.proofs.Shared as shared
use Rattle.pm_seams.proofs.Gluing as gluing
use Rattle.pm_seams.proofs.theory.seams_are_sound.Goals as goal

pub returns : goal.returns
returns c = record {
  lists = lists.lists_together;
  order = alike.order_free;
  renamed = renaming.renamed_surfaces;
  shared = shared.shared_on_borders;
  glued = gluing.glued_surfaces;
  borders = gluing.glued_borders;
}
