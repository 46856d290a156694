use Rattle.std.proofs.Common.{sym, subst, ap, ◌∙◌}
use Rattle.pm_forest.specs.Fronts.{no_records}
use Rattle.pm_candidates.specs.Needed.{is_unneeded, AreNeedCounts}
use Rattle.pm_candidates.specs.Candidates.{Candidates, AreAnswers}
use Rattle.pm_candidates.proofs.UnneededLaws.{unneeded-none}
use Rattle.pm_candidates.proofs.CountedLaws.{counts_none}
use Rattle.pm_candidates.proofs.candidates.Candidates.open.Goals as goal

pub returns : goal.returns
returns c =
    let h = c.args.h.now in
    let was = c.self.view_is ∙ c.requires in
    record {
      counts = subst (AreNeedCounts h no_records) (sym (ap (λ (x : Candidates). x.counts) was))
          (counts_none h);
      waiting = c.add_roots.ensures;
      unneeded = subst (AreAnswers h (is_unneeded h no_records))
          (sym (ap (λ (x : Candidates). x.unneeded) was)) (unneeded-none h);
    }
