-- The run to a number of faces that keeps some vertices. Each step takes the pair of least cost
-- among those that have no kept vertex. Where none is kept it is the run to a number of faces.
use Rattle.std.specs.Prelude.{◌≡◌, ℕ, ◌<◌, ◌≤◌, Bool, true, false, ◌⊎◌, List, [], ◌∷◌, ◌++◌}
use Rattle.std.specs.Prelude.{slice_index_or}
use Rattle.pm_base.specs.declared.log.Collapse.{Collapse}
use Rattle.pm_base.specs.Meshes.{Mesh}
use Rattle.pm_queue.specs.Keys.{is_before}
use Rattle.pm_runs.specs.Surfaces.{face_count_of}
use Rattle.pm_runs.specs.Steps.{entry_of}
use Rattle.pm_runs.specs.Runs.{surface_after, place_of_pair, key_of_pair, IsCandidate}

-- The vertices that a list of flags keeps. Those past the list aren't kept.
unfoldable pub kept_in : List Bool → ℕ → Bool
kept_in flags v = slice_index_or flags v false

-- No vertex is kept.
abbrev pub none_kept : ℕ → Bool
none_kept v = false

-- A pair that may be collapsed, neither vertex of which is kept.
pub record IsFreeCandidate
    (kept : ℕ → Bool) (m : Mesh) (log : List Collapse) (a b : ℕ) : Type 0 where
  pub candidate : IsCandidate m log a b
  pub first : kept a ≡ false
  pub second : kept b ≡ false

-- It comes before every other one.
pub record IsLeastFreePair
    (kept : ℕ → Bool) (m : Mesh) (log : List Collapse) (a b : ℕ) : Type 0 where
  pub free : IsFreeCandidate kept m log a b
  pub least : (c d : ℕ) → IsFreeCandidate kept m log c d →
      ((c ≡ a) × (d ≡ b)) ⊎ (is_before (key_of_pair m log a b) (key_of_pair m log c d) ≡ true)

-- After the log `past` more faces than the target are left, and the entry collapses the least of
-- these pairs.
pub record IsStepKeeping
    (kept : ℕ → Bool) (m : Mesh) (target : ℕ) (past : List Collapse) (c : Collapse) : Type 0 where
  pub more : target < face_count_of (surface_after m past)
  pub least : IsLeastFreePair kept m past c.t c.u
  pub entry : c ≡ entry_of (surface_after m past) c.t c.u (place_of_pair m past c.t c.u)

-- No more faces than the target are left, or no pair without a kept vertex may be collapsed.
abbrev pub IsEndKeeping : (ℕ → Bool) → Mesh → ℕ → List Collapse → Type 0
IsEndKeeping kept m target log =
    (face_count_of (surface_after m log) ≤ target) ⊎
    ((a b : ℕ) → IsFreeCandidate kept m log a b → ⊥)

abbrev pub AreStepsKeeping : (ℕ → Bool) → Mesh → ℕ → List Collapse → List Collapse → Type 0
AreStepsKeeping kept m target past [] = IsEndKeeping kept m target past
AreStepsKeeping kept m target past (c ∷ cs) =
    IsStepKeeping kept m target past c × AreStepsKeeping kept m target (past ++ c ∷ []) cs

-- The log of the run to a number of faces that keeps these vertices.
unfoldable pub IsRunKeeping : (ℕ → Bool) → Mesh → ℕ → List Collapse → Type 0
IsRunKeeping kept m target log = AreStepsKeeping kept m target [] log

-- The log is the first part of that run: what goes on from it makes a run of both.
abbrev pub IsBegunKeeping : (ℕ → Bool) → Mesh → ℕ → List Collapse → Type 0
IsBegunKeeping kept m target past =
    (rest : List Collapse) → AreStepsKeeping kept m target past rest →
    IsRunKeeping kept m target (past ++ rest)
