use Rattle.pm_refine.proofs.Showing.{near}
use Rattle.pm_refine.proofs.theory.deviation_views_are_sound.Goals as goal

pub returns : goal.returns
returns c = record { near = near }
