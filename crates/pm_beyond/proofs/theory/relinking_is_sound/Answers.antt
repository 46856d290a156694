use Rattle.pm_beyond.proofs.Relinking as law
use Rattle.pm_beyond.proofs.theory.relinking_is_sound.Goals as goal

pub returns-clause-split : goal.returns-clause-split
returns-clause-split c = law.splits

pub returns-clause-collapse : goal.returns-clause-collapse
returns-clause-collapse c = law.collapses
