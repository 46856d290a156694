use Rattle.obj_prepare.proofs.AccountLaws.{accounts_close}
use Rattle.obj_prepare.proofs.AgainLaws.{prepared_again}
use Rattle.obj_prepare.proofs.BecameLaws.{triangles_are_told}
use Rattle.obj_prepare.proofs.BackLaws.{places_lead_back}
use Rattle.obj_prepare.proofs.WithinLaws.{places_are_within}
use Rattle.obj_prepare.proofs.FitMeshes.{fit_meshes_stay}
use Rattle.obj_prepare.proofs.NearestLaws.{nearest_is_nearest}
use Rattle.obj_prepare.proofs.OnePrepared.{prepared_are_one, notes_are_one}
use Rattle.obj_prepare.proofs.theory.prepared_are_sound.Goals as goal

pub returns : goal.returns
returns c = record {
  nearest = nearest_is_nearest;
  back = places_lead_back;
  within = places_are_within;
  one = prepared_are_one;
  notes = notes_are_one;
  accounts = accounts_close;
  triangles = triangles_are_told;
  fit = fit_meshes_stay;
  again = prepared_again;
}
