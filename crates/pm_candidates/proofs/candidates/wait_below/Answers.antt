use Rattle.std.proofs.Common.{sym, subst}
use Rattle.pm_forest.specs.Forest.{splitter_of}
use Rattle.pm_forest.specs.Fronts.{with}
use Rattle.pm_forest.specs.Moves.{may_try}
use Rattle.pm_beyond.specs.Moves.{is_at}
use Rattle.pm_candidates.specs.Candidates.{AreAnswers, AreAdded}
use Rattle.pm_candidates.proofs.WaitingLaws.{waiting-with}
use Rattle.pm_candidates.proofs.candidates.wait_below.Goals as goal

pub returns : goal.returns
returns c T closed unsplit are =
    let h = c.args.h.now in
    let k = c.args.k in
    let first = subst (λ v. AreAdded c.args.waiting.now c.add_splitter.new.waiting
    (λ j. is_at j (splitter_of h v))) c.children.ensures.t c.add_splitter.ensures in
    let second = subst (λ v. AreAdded c.add_splitter.new.waiting c.add_splitter-2.new.waiting
    (λ j. is_at j (splitter_of h v))) c.children.ensures.u c.add_splitter-2.ensures in
    subst (AreAnswers h (may_try h (with T k))) (sym c.remove.ensures)
    (waiting-with h c.invariant.ensures T closed k c.requires.record unsplit _ _ _ are first second)
