use Rattle.pm_worlds.proofs.Cuts as cuts
use Rattle.pm_worlds.proofs.Names as names
use Rattle.pm_worlds.proofs.Parts as parts
use Rattle.pm_worlds.proofs.theory.cut_meshes_are_sound.Goals as goal

pub returns : goal.returns
returns c = record {
  surfaces = cuts.cut_surfaces;
  borders = cuts.cut_borders;
  names = names.nodes_named;
  parts = parts.show_the_whole;
}
