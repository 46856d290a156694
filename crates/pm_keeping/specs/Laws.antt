-- The laws of runs that keep some vertices, each as a statement.
use Rattle.std.specs.Prelude.{◌≡◌, ℕ, ◌↔◌, Bool, true, List, [], ◌∷◌, ◌++◌}
use Rattle.pm_base.specs.declared.log.Collapse.{Collapse}
use Rattle.pm_base.specs.Meshes.{Mesh}
use Rattle.pm_runs.specs.Runs.{IsRun, IsRunTo}
use Rattle.pm_runs.specs.Counts.{IsSpared}
use Rattle.pm_keeping.specs.Keeping.{none_kept, IsStepKeeping, IsEndKeeping, IsRunKeeping}
use Rattle.pm_keeping.specs.Keeping.{IsBegunKeeping}

-- What is known of the log of such a run: it is a run, no collapse of it takes a kept vertex, and
-- there is no other log.
pub record KeepsItsVertices
    (kept : ℕ → Bool) (m : Mesh) (target : ℕ) (log : List Collapse) : Type 0 where
  pub run : IsRun m log
  pub spared : (v : ℕ) → kept v ≡ true → IsSpared v log
  pub one : (other : List Collapse) → IsRunKeeping kept m target other → other ≡ log

abbrev pub OneRunKeeping : Type 0
OneRunKeeping =
    (kept : ℕ → Bool) (m : Mesh) (target : ℕ) (log : List Collapse) →
    IsRunKeeping kept m target log → KeepsItsVertices kept m target log

-- Where no vertex is kept it is the run to that number of faces.
abbrev pub KeepingNoneIsTheRun : Type 0
KeepingNoneIsTheRun =
    (m : Mesh) (target : ℕ) (log : List Collapse) →
    IsRunKeeping none_kept m target log ↔ IsRunTo m target log

-- It can be built entry by entry.
abbrev pub RunsKeepingAreBuilt : Type 0
RunsKeepingAreBuilt =
    (kept : ℕ → Bool) (m : Mesh) (target : ℕ) → IsBegunKeeping kept m target [] ×
    ((log : List Collapse) → IsBegunKeeping kept m target log →
    ((c : Collapse) → IsStepKeeping kept m target log c →
    IsBegunKeeping kept m target (log ++ c ∷ [])) ×
    (IsEndKeeping kept m target log → IsRunKeeping kept m target log))
