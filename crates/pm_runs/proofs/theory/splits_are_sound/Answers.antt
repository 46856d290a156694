use Rattle.pm_runs.proofs.SplitTwins.{splits_keep_manifolds}
use Rattle.pm_runs.proofs.theory.splits_are_sound.Goals as goal

pub returns : goal.returns
returns c = splits_keep_manifolds
