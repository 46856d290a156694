-- The laws of targets and plans, each as a statement.
use Rattle.std.specs.Prelude.{◌≡◌, ℕ, ◌<◌, ◌≤◌, Bool, take, drop, length}
use Rattle.pm_base.specs.Counts.{count}
use Rattle.pm_forest.specs.Forest.{Hierarchy, record_count}
use Rattle.pm_forest.specs.Rules.{HasShape}
use Rattle.pm_beyond.specs.Valid.{IsValid}
use Rattle.pm_beyond.specs.Moves.{IsClosed}
use Rattle.pm_beyond.specs.Targets.{IsTarget, target_of}
use Rattle.pm_beyond.specs.Plans.{moved_by, AreLegal, differs, plan}

-- What is taken from the last record down is the target.
abbrev pub TargetsAreLeast : Type 0
TargetsAreLeast = (h : Hierarchy) → HasShape h → (wanted : ℕ → Bool)
    → IsTarget h wanted (target_of h wanted)

-- Each move of a plan between closed sets is legal when its turn comes,
abbrev pub PlansAreLegal : Type 0
PlansAreLegal = (h : Hierarchy) → IsValid h → (S G : ℕ → Bool) → IsClosed h S → IsClosed h G
    → AreLegal h S (plan h S G)

-- the set is closed after each of its moves,
abbrev pub PlansKeepSetsClosed : Type 0
PlansKeepSetsClosed =
    (h : Hierarchy) → IsValid h → (S G : ℕ → Bool) → IsClosed h S → IsClosed h G → (m : ℕ)
    → IsClosed h (moved_by S (take m (plan h S G)))

-- the plan from there is the rest of the plan,
abbrev pub PlansGoOn : Type 0
PlansGoOn = (h : Hierarchy) (S G : ℕ → Bool) → (m : ℕ) → plan h (moved_by S (take m (plan h S G))) G
    ≡ drop m (plan h S G)

-- the plan leads from the first set to the second,
abbrev pub PlansLeadThere : Type 0
PlansLeadThere = (h : Hierarchy) (S G : ℕ → Bool) → (k : ℕ) → k < record_count h
    → moved_by S (plan h S G) k ≡ G k

-- and it has as many moves as there are records in which the two differ, so at most as many as
-- there are records.
abbrev pub PlansAreShort : Type 0
PlansAreShort =
    (h : Hierarchy) (S G : ℕ → Bool)
    → (length (plan h S G) ≡ count (differs S G) (record_count h))
    × (length (plan h S G) ≤ record_count h)
