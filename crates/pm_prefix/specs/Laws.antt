-- The laws of first records, for a hierarchy of the right shape, or one that has begun so.
use Rattle.std.specs.Prelude.{◌≡◌, ℕ, ◌<◌, ◌≤◌, Bool, true, take}
use Rattle.pm_forest.specs.Forest.{Hierarchy, record_count, leaf_count}
use Rattle.pm_forest.specs.Fronts.{IsFront, ancestor_of}
use Rattle.pm_forest.specs.declared.parts.Counts.{Counts}
use Rattle.pm_forest.specs.Rules.{HasShape}
use Rattle.pm_forest.specs.Shaping.{HasBegun}
use Rattle.pm_frame.specs.Frame.{frame_text}
use Rattle.pm_prefix.specs.Prefix.{first_records, leaf_in}

-- They are a hierarchy of the right shape, though the units after them may be still to come.
abbrev pub FirstRecordsHaveShape : Type 0
FirstRecordsHaveShape =
    (c : Counts) (h : Hierarchy) → HasBegun c h → (n : ℕ) → n ≤ record_count h
    → HasShape (first_records h n)

-- T has none but the first n records.
abbrev pub IsAmong : ℕ → (ℕ → Bool) → Type 0
IsAmong n T = (k : ℕ) → T k ≡ true → k < n

-- A front of the first records is one of all, and shows the same frame, byte for byte.
abbrev pub FirstRecordsShowTheSame : Type 0
FirstRecordsShowTheSame =
    (h : Hierarchy) → HasShape h → (n : ℕ) → n ≤ record_count h → (T : ℕ → Bool) → IsAmong n T
    → IsFront (first_records h n) T
    → IsFront h T × (frame_text (first_records h n) T ≡ frame_text h T)

-- A leaf's ancestor is its new leaf's.
abbrev pub LeavesKeepAncestors : Type 0
LeavesKeepAncestors =
    (h : Hierarchy) → HasShape h → (n : ℕ) → n ≤ record_count h → (T : ℕ → Bool) → IsAmong n T
    → (x : ℕ) → x < leaf_count h
    → (leaf_in h n x < leaf_count (first_records h n))
    × (ancestor_of (first_records h n) T (leaf_in h n x) ≡ ancestor_of h T x)

-- The hierarchy has begun with these units: all its roots and base faces, and the first records.
pub record BeginsWith (h a : Hierarchy) : Type 0 where
  pub roots : h.roots ≡ a.roots
  pub bases : h.bases ≡ a.bases
  pub records : take (record_count a) h.records ≡ a.records

-- What comes later changes nothing of them.
abbrev pub FirstRecordsAreOfTheWhole : Type 0
FirstRecordsAreOfTheWhole =
    (h a : Hierarchy) → HasShape h → BeginsWith h a → (n : ℕ) → n ≤ record_count a
    → first_records a n ≡ first_records h n
