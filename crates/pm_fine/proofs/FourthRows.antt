-- The rows worked by hand, by computing.
use Rattle.std.proofs.Common.{arith}
use Rattle.std.proofs.lemmas.Grind.{common_steps}
use lib.Count.{count_leading_zeros}
use Rattle.pm_fine.specs.Fourth.{fourth_place_of}
use Rattle.pm_fine.specs.FourthLaws.{AreFourthPlaces}

pub fourth_places : AreFourthPlaces
unfolding fourth_place_of count_leading_zeros
fourth_places = grind (arith, common_steps)
