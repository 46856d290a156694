use Rattle.pm_beyond.proofs.ClosedTheory as law
use Rattle.pm_beyond.proofs.theory.closed_sets_are_sound.Goals as goal

pub returns-clause-older : goal.returns-clause-older
returns-clause-older c = law.older

pub returns-clause-needed : goal.returns-clause-needed
returns-clause-needed c = law.needed

pub returns-clause-moves : goal.returns-clause-moves
returns-clause-moves c = law.moves

pub returns-clause-greater : goal.returns-clause-greater
returns-clause-greater c = law.greater

pub returns-clause-four_faces : goal.returns-clause-four_faces
returns-clause-four_faces c = law.four_faces_enough

pub returns-clause-decided : goal.returns-clause-decided
returns-clause-decided c = law.decided
