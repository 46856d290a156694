use Rattle.pm_tiles.proofs.SparedLeaves as leaves
use Rattle.pm_tiles.proofs.SparedBorders as borders
use Rattle.pm_tiles.proofs.ShownBorders as shown
use Rattle.pm_tiles.proofs.theory.spared_vertices_are_sound.Goals as goal

pub returns : goal.returns
returns c = record {
  vertices = leaves.spared_fixed;
  borders = borders.borders_fixed;
  shown = shown.spared_shown;
}
