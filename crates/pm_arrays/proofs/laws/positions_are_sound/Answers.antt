use Rattle.pm_arrays.proofs.PositionLaws.{positions_sound}
use Rattle.pm_arrays.proofs.laws.positions_are_sound.Goals as goal

pub returns : goal.returns
returns c = positions_sound
