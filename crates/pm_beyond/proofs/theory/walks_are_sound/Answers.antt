use Rattle.pm_beyond.proofs.WalkTheory as law
use Rattle.pm_beyond.proofs.theory.walks_are_sound.Goals as goal

pub returns-clause-one_beyond : goal.returns-clause-one_beyond
returns-clause-one_beyond c = law.one_beyond

pub returns-clause-back : goal.returns-clause-back
returns-clause-back c = law.go_back

pub returns-clause-injective : goal.returns-clause-injective
returns-clause-injective c = law.no_two

pub returns-clause-ends : goal.returns-clause-ends
returns-clause-ends c = law.ends

pub returns-clause-no_face_twice : goal.returns-clause-no_face_twice
returns-clause-no_face_twice c = law.no_face

pub returns-clause-by_ancestors : goal.returns-clause-by_ancestors
returns-clause-by_ancestors c = law.by_ancestors

pub returns-clause-full : goal.returns-clause-full
returns-clause-full c = law.full
