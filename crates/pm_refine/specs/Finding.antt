-- Records whose nodes are wanted are found from those that wait for a split, by wanted nodes;
-- records that may go are among those that no split record needs.
use Rattle.std.specs.Prelude.{◌≡◌, ℕ, ◌<◌, ◌≤◌, ◌&&◌, ◌||◌, ◌⊎◌, Bool, true, not, List, length}
use Rattle.pm_forest.specs.Forest.{record_count, s_of, Makes}
use Rattle.pm_forest.specs.Fronts.{is_active}
use Rattle.pm_base.specs.Counts.{set_of}
use Rattle.pm_forest.specs.Moves.{may_try}
use Rattle.pm_candidates.specs.Needed.{is_unneeded}
use Rattle.pm_refine.specs.Aims.{Aim}

-- The node of record j is wanted, and j isn't split.
abbrev pub is_due : Aim → ℕ → Bool
is_due aim j = aim.wanted (s_of aim.h j) && not (aim.split j)

-- Record j waits for a split, and its node is wanted.
abbrev pub is_due_now : Aim → ℕ → Bool
is_due_now aim j = may_try aim.h aim.split j && aim.wanted (s_of aim.h j)

-- Record j is split, no split record needs it, and its node isn't wanted.
abbrev pub is_loose : Aim → ℕ → Bool
is_loose aim j = is_unneeded aim.h aim.split j && not (aim.wanted (s_of aim.h j))

-- Due records from b on are in `splits`; `work` has those that were in it, and the records that may
-- go. Found are the due records that split active nodes, and those that split children of due
-- records in `work`.
pub record AreFound (aim : Aim) (b : ℕ) (splits work : List Bool) : Type 0 where
  pub most : b ≤ record_count aim.h
  pub splits_len : length splits ≡ record_count aim.h
  pub work_len : length work ≡ record_count aim.h
  pub splits_only : (j : ℕ) → set_of splits j ≡ true → (b ≤ j) × (is_due aim j ≡ true)
  pub work_only : (j : ℕ) → set_of work j ≡ true → (is_due aim j ≡ true) ⊎ (is_loose aim j ≡ true)
  pub loose : (j : ℕ) → j < record_count aim.h → is_loose aim j ≡ true → set_of work j ≡ true
  pub active : (j : ℕ) → j < record_count aim.h → is_due aim j ≡ true
      → is_active aim.h aim.split (s_of aim.h j) ≡ true → (set_of splits j || set_of work j) ≡ true
  pub under :
      (i j : ℕ) → j < record_count aim.h → is_due aim i ≡ true → set_of work i ≡ true
      → Makes aim.h i (s_of aim.h j)
      → is_due aim j ≡ true → (set_of splits j || set_of work j) ≡ true

-- The set has the due records, and those that may go.
pub record IsStartOfPlan (aim : Aim) (work : List Bool) : Type 0 where
  pub work_len : length work ≡ record_count aim.h
  pub only : (j : ℕ) → set_of work j ≡ true → (is_due aim j ≡ true) ⊎ (is_loose aim j ≡ true)
  pub due : (j : ℕ) → j < record_count aim.h → is_due aim j ≡ true → set_of work j ≡ true
  pub loose : (j : ℕ) → j < record_count aim.h → is_loose aim j ≡ true → set_of work j ≡ true
