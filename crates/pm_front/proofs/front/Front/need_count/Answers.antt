use Rattle.std.proofs.Common.{◌<◌, ap, sym, ◌∙◌, subst}
use Rattle.pm_forest.specs.Forest.{record_count}
use Rattle.pm_base.specs.Counts.{set_of}
use Rattle.pm_front.specs.State.{State}
use Rattle.pm_candidates.specs.Needed.{need_count}
use Rattle.pm_candidates.proofs.NeedCountLaws.{unneeded-count, need_count-unneeded}
use Rattle.pm_front.proofs.front.Front.need_count.Goals as goal

pub returns-clause-zero : goal.returns-clause-zero
returns-clause-zero c =
    let s = c.args.self.now in
    let k = c.args.k in
    let l = subst (λ (s : State). k < record_count s.h) (sym c.self.view_is) c.requires in
    let is = c.count.ensures ∙ c.self.invariant.candidates.counts.each k l
    ∙ ap (λ (s : State). need_count s.h (set_of s.flags) k) c.self.view_is in (
      λ none. unneeded-count s.h (set_of s.flags) k (sym is ∙ none),
      λ free. is
          ∙ need_count-unneeded s.h (set_of s.flags) k free,
    )
