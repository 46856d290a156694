use Rattle.pm_join.proofs.TileLaws.{show_the_whole}
use Rattle.pm_join.proofs.theory.tiles_show_the_whole.Goals as goal

pub returns : goal.returns
returns c = record { whole = show_the_whole }
