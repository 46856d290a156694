use Rattle.pm_tiles.proofs.FixedLeaves as leaves
use Rattle.pm_tiles.proofs.FixedBorders as borders
use Rattle.pm_tiles.proofs.InputBorders as input
use Rattle.pm_tiles.proofs.Seams as seams
use Rattle.pm_tiles.proofs.theory.fixed_borders_are_sound.Goals as goal

pub returns : goal.returns
returns c = record {
  leaves = leaves.leaves_stay;
  sides = borders.sides_stay;
  borders = borders.borders_stay;
  shown = input.borders_are_shown;
  tiles = seams.tiles_meet;
}
