use Rattle.pm_base.proofs.Lengths.{distances_le, distances_first, distances_second}
use Rattle.pm_base.proofs.distance.distances_add.Goals as goal

pub returns : goal.returns
returns c = record { at_most = distances_le; first = distances_first; second = distances_second }
