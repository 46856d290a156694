use Rattle.pm_forest.proofs.FrontLaws as law
use Rattle.pm_forest.proofs.theory.fronts_are_sound.Goals as goal

pub returns-clause-one_ancestor : goal.returns-clause-one_ancestor
returns-clause-one_ancestor c = law.one_ancestor

pub returns-clause-prefixes : goal.returns-clause-prefixes
returns-clause-prefixes c = law.prefixes

pub returns-clause-splits : goal.returns-clause-splits
returns-clause-splits c = law.splits

pub returns-clause-collapses : goal.returns-clause-collapses
returns-clause-collapses c = law.collapses

pub returns-clause-lower : goal.returns-clause-lower
returns-clause-lower c = law.lower

pub returns-clause-kept : goal.returns-clause-kept
returns-clause-kept c = law.kept

pub returns-clause-tests : goal.returns-clause-tests
returns-clause-tests c = law.tests
