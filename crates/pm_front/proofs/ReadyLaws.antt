-- Fronts that keep the records of which their next moves are made.
use Rattle.std.proofs.Common.{◌≡◌, ℕ, ◌<◌, Bool, true, false, List, [], length, get_or, Option, sym}
use Rattle.std.proofs.Common.{arith}
use Rattle.std.proofs.lemmas.Grind.{common_steps}
use Rattle.std.proofs.Common.{subst}
use Rattle.std.proofs.Math.ListN.{set}
use Rattle.pm_forest.specs.Forest.{Hierarchy, record_count}
use Rattle.pm_forest.specs.Fronts.{with, without}
use Rattle.pm_base.specs.Counts.{set_of}
use Rattle.pm_forest.proofs.Flags.{set_of-set, set_of-clear}
use Rattle.pm_candidates.specs.Needed.{AreNeedsOf, AreNeeds}
use Rattle.pm_candidates.specs.Candidates.{Candidates, AreCandidates}
use Rattle.pm_front.specs.State.{State, IsSoundFront, IsReadyFront}

-- What holds of what is read holds of what it is.
pub as_read : (P : Hierarchy → List Bool → Type 0) (g h : Hierarchy) (fs flags : List Bool) → g ≡ h
    → fs ≡ flags → P g fs → P h flags
as_read P g h fs flags same is p = subst (λ (x : Hierarchy). P x flags) same (subst (P g) is p)

-- a state with the same hierarchy and these flags
pub ready-same : (s : State) (h : Hierarchy) (flags : List Bool) (c : Candidates)
    (needed : List (List (Option ℕ))) → s.h ≡ h → s.flags ≡ flags → IsReadyFront h flags c needed
    → IsReadyFront s.h s.flags c needed
ready-same s h flags c needed same is ready =
    as_read (λ (g : Hierarchy) (fs : List Bool). IsReadyFront g fs c needed) h s.h flags s.flags
    (sym same) (sym is) ready

-- After a move
module _ (h : Hierarchy) (flags : List Bool) (k : ℕ) (l : k < length flags) (c : Candidates)
    (needed : List (List (Option ℕ))) (rows : AreNeeds h needed) where
  pub split_ready : IsSoundFront h (set flags k true) → AreCandidates h (with (set_of flags) k) c
      → IsReadyFront h (set flags k true) c needed
  split_ready sound are = grind (arith, common_steps, set_of-set flags k l)

  pub collapse_ready : IsSoundFront h (set flags k false)
      → AreCandidates h (without (set_of flags) k) c → IsReadyFront h (set flags k false) c needed
  collapse_ready sound are = grind (arith, common_steps, set_of-clear flags k l)

-- The row of a record has what it needs.
pub row_needed : (h g : Hierarchy) (needed : List (List (Option ℕ))) → AreNeeds h needed → g ≡ h
    → (k : ℕ) → k < record_count h → (row : List (Option ℕ)) → row ≡ get_or needed k []
    → AreNeedsOf g k row
row_needed h g needed rows same k l row is =
    subst (λ (x : Hierarchy). AreNeedsOf x k row) (sym same)
    (subst (AreNeedsOf h k) (sym is) (rows.each k l))
