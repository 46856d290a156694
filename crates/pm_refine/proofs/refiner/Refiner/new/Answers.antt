use Rattle.std.proofs.Common.{ℕ, Bool, false, List, length, get_or, sym, ap, ◌∙◌}
use Rattle.std.proofs.lemmas.List.{length-replicate}
use Rattle.pm_base.specs.Counts.{set_of}
use Rattle.pm_refine.proofs.SetLaws.{all_alike}
use Rattle.pm_refine.proofs.refiner.Refiner.new.Goals as goal

pub invariant_of-result : goal.invariant_of-result
invariant_of-result c =
    let n = c.records.result in
    let new = c.in_ok-plan.ensures in
    let as_many = sym (ap (λ (m : List Bool). length m) new.marks) in
    record {
      work_len = ap (λ (m : List Bool). length m) new.work ∙ as_many;
      splits_len = ap (λ (m : List Bool). length m) new.splits ∙ as_many;
      collapses_len = ap (λ (m : List Bool). length m) new.collapses ∙ as_many;
      count_len = ap (λ (m : List ℕ). length m) new.needs ∙ length-replicate n 0
          ∙ sym (length-replicate n false) ∙ as_many;
      clear = λ j. ap (λ (m : List Bool). set_of m j) new.marks ∙ all_alike false n j;
      no_work = λ j. ap (λ (m : List Bool). set_of m j) new.work ∙ all_alike false n j;
      no_splits = λ j. ap (λ (m : List Bool). set_of m j) new.splits ∙ all_alike false n j;
      no_collapses = λ j. ap (λ (m : List Bool). set_of m j) new.collapses ∙ all_alike false n j;
      no_counts = λ j. ap (λ (m : List ℕ). get_or m j 0) new.needs ∙ all_alike {A = ℕ} 0 n j;
    }
