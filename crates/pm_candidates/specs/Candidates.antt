-- The records of which the next moves of a front are made: those that wait for a split, those that
-- may be collapsed, and how often each is needed.
use Rattle.std.specs.Prelude.{◌≡◌, ℕ, ◌<◌, ◌==◌, Bool, false, not, ◌&&◌, ◌||◌, List, length}
use Rattle.std.specs.Prelude.{replicate, Option, slice_index_or}
use Rattle.pm_forest.specs.Forest.{Hierarchy, record_count}
use Rattle.pm_base.specs.Counts.{set_of}
use Rattle.pm_forest.specs.Moves.{may_try}
use Rattle.pm_candidates.specs.Needed.{times_in, is_unneeded, AreNeedCounts}

-- The counts, and a flag for each record of either set.
pub record Candidates : Type 0 where
  pub counts : List ℕ
  pub waiting : List Bool
  pub unneeded : List Bool

-- Those of no record at all.
abbrev pub no_candidates : ℕ → Candidates
no_candidates n = record {
  counts = replicate n 0;
  waiting = replicate n false;
  unneeded = replicate n false;
}

-- The flags are the answers of a test on records.
pub record AreAnswers (h : Hierarchy) (test : ℕ → Bool) (flags : List Bool) : Type 0 where
  pub len : length flags ≡ record_count h
  pub each : (k : ℕ) → k < record_count h → set_of flags k ≡ test k

-- The counts are those of T; the records that wait are those that aren't split and whose nodes are
-- active.
pub record AreCandidates (h : Hierarchy) (T : ℕ → Bool) (c : Candidates) : Type 0 where
  pub counts : AreNeedCounts h T c.counts
  pub waiting : AreAnswers h (may_try h T) c.waiting
  pub unneeded : AreAnswers h (is_unneeded h T) c.unneeded

-- The flags of those that pass the test are cleared, and no other flag is changed.
pub record AreCleared (old new : List Bool) (test : ℕ → Bool) : Type 0 where
  pub len : length new ≡ length old
  pub each : (k : ℕ) → k < length old → set_of new k ≡ set_of old k && not (test k)

-- The flags of those that pass the test are set, and no other flag is changed.
pub record AreAdded (old new : List Bool) (test : ℕ → Bool) : Type 0 where
  pub len : length new ≡ length old
  pub each : (k : ℕ) → k < length old → set_of new k ≡ set_of old k || test k

-- Record k is among these needs.
abbrev pub is_among : List (Option ℕ) → ℕ → Bool
is_among needed k = not (times_in k needed == 0)

-- It is, and its count is zero.
abbrev pub is_freed : List (Option ℕ) → List ℕ → ℕ → Bool
is_freed needed counts k = is_among needed k && (slice_index_or counts k 0 == 0)
