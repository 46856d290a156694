-- The records that will be collapsed, and the counts of what they need.
use Rattle.std.proofs.Common.{◌≡◌, ℕ, Bool, List, length, get_or, inl, inr, sym, ap, ◌∙◌, arith}
use Rattle.std.proofs.Math.Path.{fun_ext}
use Rattle.std.proofs.lemmas.Bool.{cases_lt}
use Rattle.std.proofs.lemmas.List.{get_or_past}
use Rattle.pm_sets.specs.Sets.{IsEmptySet}
use Rattle.pm_forest.specs.Forest.{Hierarchy, record_count}
use Rattle.pm_forest.specs.Fronts.{no_records}
use Rattle.pm_base.specs.Counts.{set_of}
use Rattle.pm_candidates.specs.Needed.{need_count, AreNeedCounts}
use Rattle.pm_candidates.proofs.NeedCountLaws.{need_count-empty}

-- An empty set is that of no records.
pub empty_set : (flags : List Bool) → IsEmptySet flags → set_of flags ≡ no_records
empty_set flags none = fun_ext none

module _ (h : Hierarchy) (counts : List ℕ) where
  -- Where it is empty, all counts are 0.
  pub counts_start : (flags : List Bool) → IsEmptySet flags → length counts ≡ record_count h
      → ((k : ℕ) → get_or counts k 0 ≡ 0) → AreNeedCounts h (set_of flags) counts
  counts_start flags none len zero = record {
    len = len;
    each = λ k l. zero k
        ∙ sym (ap (λ (T : ℕ → Bool). need_count h T k) (empty_set flags none)
        ∙ need_count-empty h k);
  }

  pub counts_end : (flags : List Bool) → IsEmptySet flags → AreNeedCounts h (set_of flags) counts
      → (k : ℕ) → get_or counts k 0 ≡ 0
  counts_end flags none are k =
      elim (cases_lt k (record_count h)) [
        | inl l ↦ are.each k l ∙ ap (λ (T : ℕ → Bool). need_count h T k) (empty_set flags none)
            ∙ need_count-empty h k
        | inr m ↦ get_or_past counts k 0 (let len = are.len in omega arith)
      ]
