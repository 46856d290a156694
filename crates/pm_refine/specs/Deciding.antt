-- Records are decided from the last one down, over few of them: those that are due or that may go,
-- and what those need that will be split or collapsed.
use Rattle.std.specs.Prelude.{◌≡◌, ◌≢◌, ℕ, suc, ◌+◌, ◌<◌, ◌≤◌, Bool, ◌&&◌, ◌||◌, ◌⊎◌, not, true}
use Rattle.std.specs.Prelude.{false, length}
use Rattle.pm_forest.specs.Forest.{record_count, s_of}
use Rattle.pm_base.specs.Counts.{count, set_of}
use Rattle.pm_beyond.specs.Moves.{Needs}
use Rattle.pm_refine.specs.Aims.{Aim, Sets, HoldsAimed, aimed, is_moved, is_used}
use Rattle.pm_candidates.specs.Needed.{is_needed, is_unneeded, remaining}
use Rattle.pm_refine.specs.Finding.{is_due, is_loose}

-- All records from b on are decided: `splits` has those that will be split, and `collapses` those
-- that will be collapsed. Of those below, what a record needs that will be split is marked. Still
-- to be decided is what is marked, what is due, what may go, and what a record needs that will be
-- collapsed.
pub record AreDecided (aim : Aim) (b : ℕ) (held : Sets) : Type 0 where
  pub most : b ≤ record_count aim.h
  pub mark_len : length held.marks ≡ record_count aim.h
  pub work_len : length held.work ≡ record_count aim.h
  pub below : (j : ℕ) → set_of held.work j ≡ true → j < b
  pub only : (j : ℕ) → set_of held.work j ≡ true → (aim.split j ≡ true) ⊎ (aimed aim j ≡ true)
  pub tried : (j : ℕ) → set_of held.work j ≡ true → aim.split j ≡ true
      → (set_of held.marks j ≡ true)
      ⊎ ((is_unneeded aim.h aim.split j ≡ false) ⊎ (aim.wanted (s_of aim.h j) ≡ false))
  pub marked : (j : ℕ) → set_of held.marks j ≡ true → set_of held.work j ≡ true
  pub sound : (j : ℕ) → set_of held.marks j ≡ true → aimed aim j ≡ true
  pub all : (i j : ℕ) → b ≤ i → i < record_count aim.h → aimed aim i ≡ true → aim.split i ≡ false
      → Needs aim.h i j → j < b → set_of held.marks j ≡ true
  pub due : (j : ℕ) → j < b → is_due aim j ≡ true → set_of held.work j ≡ true
  pub loose : (j : ℕ) → j < b → is_loose aim j ≡ true → set_of held.work j ≡ true
  pub pushed : (i j : ℕ) → set_of held.collapses i ≡ true → Needs aim.h i j → j < b
      → set_of held.work j ≡ true
  pub to_do : HoldsAimed aim b held

-- The same, where record k was taken out of those that are to be decided, and all greater ones are
-- decided.
pub record IsNext (aim : Aim) (k : ℕ) (held : Sets) : Type 0 where
  pub is_record : k < record_count aim.h
  pub mark_len : length held.marks ≡ record_count aim.h
  pub work_len : length held.work ≡ record_count aim.h
  pub below : (j : ℕ) → set_of held.work j ≡ true → j < k
  pub only : (j : ℕ) → set_of held.work j ≡ true → (aim.split j ≡ true) ⊎ (aimed aim j ≡ true)
  pub itself : (aim.split k ≡ true) ⊎ (aimed aim k ≡ true)
  pub tried : (j : ℕ) → set_of held.work j ≡ true → aim.split j ≡ true
      → (set_of held.marks j ≡ true)
      ⊎ ((is_unneeded aim.h aim.split j ≡ false) ⊎ (aim.wanted (s_of aim.h j) ≡ false))
  pub tried_itself : aim.split k ≡ true → (set_of held.marks k ≡ true)
      ⊎ ((is_unneeded aim.h aim.split k ≡ false) ⊎ (aim.wanted (s_of aim.h k) ≡ false))
  pub marked : (j : ℕ) → j ≢ k → set_of held.marks j ≡ true → set_of held.work j ≡ true
  pub sound : (j : ℕ) → set_of held.marks j ≡ true → aimed aim j ≡ true
  pub all : (i j : ℕ) → k < i → i < record_count aim.h → aimed aim i ≡ true → aim.split i ≡ false
      → Needs aim.h i j → j ≤ k → set_of held.marks j ≡ true
  pub due : (j : ℕ) → j < k → is_due aim j ≡ true → set_of held.work j ≡ true
  pub loose : (j : ℕ) → j < k → is_loose aim j ≡ true → set_of held.work j ≡ true
  pub pushed : (i j : ℕ) → set_of held.collapses i ≡ true → Needs aim.h i j → j < k
      → set_of held.work j ≡ true
  pub to_do : HoldsAimed aim (suc k) held

-- A split record that won't be collapsed needs record k.
abbrev pub is_held : Aim → Sets → ℕ → Bool
is_held aim held k = is_needed aim.h (remaining aim.split (set_of held.collapses)) k

-- Whether record k, where it is next, is in the target: where it isn't split, where it is marked,
-- where a record that stays needs it, and where its node is wanted.
abbrev pub is_staying : Aim → Sets → ℕ → Bool
is_staying aim held k =
    not (aim.split k) || (set_of held.marks k || (is_held aim held k || aim.wanted (s_of aim.h k)))

-- Whether that is so of its node alone.
abbrev pub is_tested : Aim → Sets → ℕ → Bool
is_tested aim held k = aim.split k && (not (set_of held.marks k) && not (is_held aim held k))

-- All records from some bound on are decided, and the moves that were found of them, and the steps
-- that were counted since they were `before`, are as many as they may be.
pub record HasDecided (aim : Aim) (held : Sets) (moves before now : ℕ) : Type 0 where
  pub bound : ℕ
  pub decided : AreDecided aim bound held
  pub found : moves + count (is_moved aim) bound ≡ count (is_moved aim) (record_count aim.h)
  pub few : moves + bound ≤ record_count aim.h
  pub cost : now + count (is_used aim) bound + count (is_moved aim) bound
      ≤ before + count (is_used aim) (record_count aim.h)
      + count (is_moved aim) (record_count aim.h)
