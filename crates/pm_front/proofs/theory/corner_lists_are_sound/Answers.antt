use Rattle.pm_front.proofs.HistoryLaws.{legal-corners}
use Rattle.pm_front.proofs.theory.corner_lists_are_sound.Goals as goal

pub returns : goal.returns
returns c = legal-corners
