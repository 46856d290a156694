use Rattle.std.proofs.Common.{ltb}
use Rattle.pm_forest.specs.Forest.{s_of}
use Rattle.pm_candidates.specs.Candidates.{AreAnswers}
use Rattle.pm_candidates.proofs.candidates.add_roots.Given as goal

abbrev pub invariant-loop-root : goal.invariant-loop-root
invariant-loop-root l = AreAnswers l.h (λ k. ltb (s_of l.h k) l.root) l.waiting
