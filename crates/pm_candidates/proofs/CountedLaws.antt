-- The counts of a set once a record comes to it or has left it.
use Rattle.std.proofs.Common.{◌≡◌, ℕ, ◌+◌, ◌<◌, ◌≤◌, ◌^◌, Bool, false, List, length, get_or}
use Rattle.std.proofs.lemmas.Grind.{common_steps}
use Rattle.std.proofs.Common.{replicate, Option, sym, ◌∙◌, arith}
use Rattle.std.proofs.lemmas.List.{length-replicate, get_or-replicate}
use Rattle.pm_forest.specs.Forest.{Hierarchy, record_count}
use Rattle.pm_forest.specs.Fronts.{with, no_records}
use Rattle.pm_forest.specs.Rules.{HasShape}
use Rattle.pm_forest.proofs.ShapeLaws.{leaf_count-le, record_count-roots}
use Rattle.pm_candidates.specs.Needed.{times_in, times_needed, AreRaised, AreNeedCounts}
use Rattle.pm_candidates.proofs.TimesLaws.{times_needed-most}
use Rattle.pm_candidates.proofs.NeedCountLaws.{need_count-most, need_count-with, need_count-empty}

module _ (h : Hierarchy) (T : ℕ → Bool) (j : ℕ) (l : j < record_count h) (absent : T j ≡ false)
    (needed : List (Option ℕ)) (times : (k : ℕ) → times_in k needed ≡ times_needed h j k) where
  -- Before a record comes, there is room for what it needs.
  pub room_left : HasShape h → (counts : List ℕ) → AreNeedCounts h T counts → (k : ℕ)
      → k < length counts → get_or counts k 0 + times_in k needed < 2 ^ 32
  room_left shape counts are k k_lt =
      let few = leaf_count-le h shape in
      let records = record_count-roots h shape in
      omega (
        arith,
        are.len,
        are.each k (omega (arith, are.len)),
        need_count-most h T k,
        times k,
        times_needed-most h j k,
        few,
        records,
      )

  pub counts_with : (old new : List ℕ) → AreNeedCounts h T old → AreRaised old new needed
      → AreNeedCounts h (with T j) new
  counts_with old new are raised = record {
    len = raised.len ∙ are.len;
    each = λ k k_lt. omega (
      arith,
      raised.each k (omega (arith, are.len)),
      are.each k k_lt,
      need_count-with h T j absent k l,
      times k,
    );
  }

  -- Before a record is left out, what it needs is counted.
  pub needs_counted : (counts : List ℕ) → AreNeedCounts h (with T j) counts → (k : ℕ)
      → k < length counts → times_in k needed ≤ get_or counts k 0
  needs_counted counts are k k_lt =
      omega (arith, are.each k (omega (arith, are.len)), need_count-with h T j absent k l, times k)

  pub counts_without : (old new : List ℕ) → AreNeedCounts h (with T j) old
      → AreRaised new old needed
      → AreNeedCounts h T new
  counts_without old new are raised = record {
    len = sym raised.len ∙ are.len;
    each = λ k k_lt. omega (
      arith,
      raised.each k (omega (arith, are.len, raised.len)),
      are.each k k_lt,
      need_count-with h T j absent k l,
      times k,
    );
  }

-- The counts of the empty set are zero.
pub counts_none : (h : Hierarchy) → AreNeedCounts h no_records (replicate (record_count h) 0)
counts_none h = grind (arith, common_steps, get_or-replicate, length-replicate, need_count-empty)
