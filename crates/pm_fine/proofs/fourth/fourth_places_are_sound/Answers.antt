use Rattle.pm_fine.proofs.LevelLaws.{least_where_level}
use Rattle.pm_fine.proofs.CramerLaws.{cofactors_solve}
use Rattle.pm_fine.proofs.FoundLaws.{least_is_found}
use Rattle.pm_fine.proofs.FourthPlaces.{fourth_is_a_place}
use Rattle.pm_fine.proofs.FourthRows.{fourth_places}
use Rattle.pm_fine.proofs.fourth.fourth_places_are_sound.Goals as goal

pub returns : goal.returns
returns c = record {
  least = least_where_level;
  rule = cofactors_solve;
  found = least_is_found;
  places = fourth_is_a_place;
  rows = fourth_places;
}
