use Rattle.pm_worlds.proofs.Worlds as worlds
use Rattle.pm_worlds.proofs.theory.worlds_are_sound.Goals as goal

pub returns : goal.returns
returns c = record {
  surfaces = worlds.world_surfaces;
  borders = worlds.world_borders;
  stay = worlds.stay_surfaces;
}
