use Rattle.pm_beyond.proofs.Opening as law
use Rattle.pm_beyond.proofs.theory.openings_are_sound.Goals as goal

pub returns-clause-found : goal.returns-clause-found
returns-clause-found c = law.told_found

pub returns-clause-told : goal.returns-clause-told
returns-clause-told c = law.told_valid

pub returns-clause-fails : goal.returns-clause-fails
returns-clause-fails c = law.one_fails
