use Rattle.std.proofs.Common.{sym, subst}
use Rattle.pm_forest.specs.Forest.{splitter_of}
use Rattle.pm_forest.specs.Fronts.{without}
use Rattle.pm_forest.specs.Moves.{may_try}
use Rattle.pm_beyond.specs.Moves.{is_at}
use Rattle.pm_candidates.specs.Candidates.{AreAnswers, AreCleared}
use Rattle.pm_candidates.proofs.WaitingLaws.{waiting-without}
use Rattle.pm_candidates.proofs.candidates.wait_above.Goals as goal

pub returns : goal.returns
returns c T closed is_split are =
    let h = c.args.h.now in
    let k = c.args.k in
    let first = subst (λ v. AreCleared c.args.waiting.now c.clear_splitter.new.waiting
    (λ j. is_at j (splitter_of h v))) c.children.ensures.t c.clear_splitter.ensures in
    let second = subst (λ v. AreCleared c.clear_splitter.new.waiting c.clear_splitter-2.new.waiting
    (λ j. is_at j (splitter_of h v))) c.children.ensures.u c.clear_splitter-2.ensures in
    subst (AreAnswers h (may_try h (without T k))) (sym c.insert.ensures)
    (waiting-without h c.invariant.ensures T closed k c.requires.record is_split _ _ _ are first
    second)
