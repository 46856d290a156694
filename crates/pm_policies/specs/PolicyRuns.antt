-- The run by a policy to a number of faces. Each step takes the pair of least key among those that
-- are legal at their places and have no kept vertex.
use Rattle.std.specs.Prelude.{◌≡◌, ℕ, ◌<◌, ◌≤◌, true, false, ◌⊎◌, List, [], ◌∷◌, ◌++◌}
use Rattle.pm_base.specs.Place.{Place}
use Rattle.pm_base.specs.declared.log.Collapse.{Collapse}
use Rattle.pm_base.specs.Meshes.{Mesh}
use Rattle.pm_queue.specs.Keys.{is_before}
use Rattle.pm_runs.specs.Surfaces.{face_count_of}
use Rattle.pm_runs.specs.Pairs.{IsLegalPair}
use Rattle.pm_runs.specs.Steps.{entry_of}
use Rattle.pm_runs.specs.Runs.{surface_after}
use Rattle.pm_policies.specs.Policies.{Policy, place_by, key_by}

-- A pair, the lesser vertex first, that is legal at its place and has no kept vertex.
pub record IsCandidateBy (p : Policy) (m : Mesh) (log : List Collapse) (a b : ℕ) : Type 0 where
  pub ordered : a < b
  pub legal : IsLegalPair (surface_after m log) a b (place_by p m log a b)
  pub first : p.kept a ≡ false
  pub second : p.kept b ≡ false

-- It comes before every other one.
pub record IsLeastPairBy (p : Policy) (m : Mesh) (log : List Collapse) (a b : ℕ) : Type 0 where
  pub candidate : IsCandidateBy p m log a b
  pub least : (c d : ℕ) → IsCandidateBy p m log c d →
      ((c ≡ a) × (d ≡ b)) ⊎ (is_before (key_by p m log a b) (key_by p m log c d) ≡ true)

-- Where the policy would put a pair.
abbrev pub wanted_by : Policy → Mesh → List Collapse → ℕ → ℕ → Place
wanted_by p m log a b = p.put (surface_after m log) a b (place_by p m log a b)

-- The pair is put there if it is legal there, and else at its place.
abbrev pub IsPutBy : Policy → Mesh → List Collapse → ℕ → ℕ → Place → Type 0
IsPutBy p m log a b place =
    let Legal : Type 0 = IsLegalPair (surface_after m log) a b (wanted_by p m log a b) in
    (Legal × (place ≡ wanted_by p m log a b)) ⊎ ((Legal → ⊥) × (place ≡ place_by p m log a b))

-- After the log `past` more faces than the target are left, and the entry collapses the least pair.
pub record IsStepBy
    (p : Policy) (m : Mesh) (target : ℕ) (past : List Collapse) (c : Collapse) : Type 0 where
  pub more : target < face_count_of (surface_after m past)
  pub least : IsLeastPairBy p m past c.t c.u
  pub put : IsPutBy p m past c.t c.u c.place
  pub entry : c ≡ entry_of (surface_after m past) c.t c.u c.place

-- No pair may be collapsed.
abbrev pub HasNoCandidateBy : Policy → Mesh → List Collapse → Type 0
HasNoCandidateBy p m log = (a b : ℕ) → IsCandidateBy p m log a b → ⊥

-- No more faces than the target are left, or no pair may be collapsed.
abbrev pub IsEndBy : Policy → Mesh → ℕ → List Collapse → Type 0
IsEndBy p m target log = (face_count_of (surface_after m log) ≤ target) ⊎ HasNoCandidateBy p m log

abbrev pub AreStepsBy : Policy → Mesh → ℕ → List Collapse → List Collapse → Type 0
AreStepsBy p m target past [] = IsEndBy p m target past
AreStepsBy p m target past (c ∷ cs) =
    IsStepBy p m target past c × AreStepsBy p m target (past ++ c ∷ []) cs

-- The log of the run by a policy to a number of faces.
unfoldable pub IsRunBy : Policy → Mesh → ℕ → List Collapse → Type 0
IsRunBy p m target log = AreStepsBy p m target [] log

-- The log is the first part of that run: what goes on from it makes a run of both.
abbrev pub IsBegunBy : Policy → Mesh → ℕ → List Collapse → Type 0
IsBegunBy p m target past =
    (rest : List Collapse) → AreStepsBy p m target past rest → IsRunBy p m target (past ++ rest)
