use Rattle.pm_beyond.proofs.ClosedTheory as law
use Rattle.pm_beyond.proofs.theory.answers_are_sound.Goals as goal

pub returns-clause-exact : goal.returns-clause-exact
returns-clause-exact c = law.answers

pub returns-clause-blocking : goal.returns-clause-blocking
returns-clause-blocking c = law.blocking
