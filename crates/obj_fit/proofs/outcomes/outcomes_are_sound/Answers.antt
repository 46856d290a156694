use Rattle.obj_fit.proofs.AccountLaws.{texts_are_accounted}
use Rattle.obj_fit.proofs.OutcomeLaws.{one_outcome}
use Rattle.obj_fit.proofs.ReadLaws.{texts_are_read}
use Rattle.obj_fit.proofs.BackLaws.{texts_lead_back}
use Rattle.obj_fit.proofs.AgainLaws.{texts_come_back}
use Rattle.obj_fit.proofs.StayLaws.{fit_scans_stay, fit_texts_stay}
use Rattle.obj_fit.proofs.outcomes.outcomes_are_sound.Goals as goal

pub returns : goal.returns
returns c = record {
  one = one_outcome;
  read = texts_are_read;
  back = texts_lead_back;
  accounts = texts_are_accounted;
  again = texts_come_back;
  stays = fit_scans_stay;
  fit = fit_texts_stay;
}
