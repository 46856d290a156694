use Rattle.pm_strips.proofs.StripLaws.{strips_go_on}
use Rattle.pm_strips.proofs.ShownLaws.{strips_show, fronts_carry}
use Rattle.pm_strips.proofs.theory.strips_are_sound.Goals as goal

pub returns : goal.returns
returns c = record { mesh = strips_show; ends = fronts_carry; on = strips_go_on }
