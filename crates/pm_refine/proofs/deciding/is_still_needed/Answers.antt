use Rattle.std.proofs.Common.{eqb, not, ap, ◌∙◌}
use Rattle.std.proofs.Math.Bool.{not-not}
use Rattle.pm_base.specs.Counts.{set_of}
use Rattle.pm_candidates.specs.Needed.{is_needed, remaining, need_count}
use Rattle.pm_candidates.proofs.NeedCountLaws.{remaining_test}
use Rattle.pm_refine.proofs.deciding.is_still_needed.Goals as goal

pub returns : goal.returns
returns c =
    let h = c.args.front.now.h in
    let S = set_of c.args.front.now.flags in
    let F = set_of c.args.collapses.now.records in
    let k = c.args.k in
    let collapses = c.need_count.ensures ∙ c.requires.counts.each k c.requires.record in
    ap (λ n. not (eqb n c.need_count-2.result)) collapses
    ∙ ap (λ n. not (eqb (need_count h F k) n)) c.need_count-2.ensures.value
    ∙ ap not (remaining_test h S F c.requires.split k)
    ∙ not-not (is_needed h (remaining S F) k)
