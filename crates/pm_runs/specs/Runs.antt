-- Runs of collapses, and the run to a number of faces, which takes the pair of least cost at each
-- step.
use Rattle.std.specs.Prelude.{◌≡◌, ℕ, ◌<◌, ◌≤◌, true, ◌⊎◌, List, [], ◌∷◌, ◌++◌}
use Rattle.pm_base.specs.Place.{Place}
use Rattle.pm_base.specs.declared.log.Collapse.{Collapse}
use Rattle.pm_base.specs.Meshes.{Mesh, IsWellFormed}
use Rattle.pm_base.specs.Sides.{net_of}
use Rattle.pm_base.specs.Fans.{IsOrientedManifold}
use Rattle.pm_queue.specs.declared.key.Key.{Key}
use Rattle.pm_queue.specs.Keys.{is_before}
use Rattle.pm_runs.specs.Surfaces.{Surface, face_count_of, surface_of, collapsed}
use Rattle.pm_runs.specs.Pairs.{IsLegalPair}
use Rattle.pm_runs.specs.Steps.{entry_of}
use Rattle.pm_runs.specs.Planes.{planes_after, best_place_of, key_of}

-- What simplification starts from.
pub record IsStartOfRun (m : Mesh) : Type 0 where
  pub formed : IsWellFormed m
  pub manifold : IsOrientedManifold (net_of m.faces)

-- The surface after one collapse of a log.
abbrev pub after_entry : Surface → Collapse → Surface
after_entry s c = collapsed s c.t c.u c.place

abbrev pub surface_from : Surface → List Collapse → Surface
surface_from s [] = s
surface_from s (c ∷ cs) = surface_from (after_entry s c) cs

-- The surface after the collapses of a log.
unfoldable pub surface_after : Mesh → List Collapse → Surface
surface_after m log = surface_from (surface_of m) log

-- A collapse of two vertices, the lesser one first, that is legal at its place, with what the log
-- is to say of it.
pub record IsStep (s : Surface) (c : Collapse) : Type 0 where
  pub ordered : c.t < c.u
  pub legal : IsLegalPair s c.t c.u c.place
  pub entry : c ≡ entry_of s c.t c.u c.place

-- Each entry is a step of the surface before it.
abbrev pub AreSteps : Surface → List Collapse → Type 0
AreSteps s [] = Unit {0}
AreSteps s (c ∷ cs) = IsStep s c × AreSteps (after_entry s c) cs

-- The log of some run of the mesh.
unfoldable pub IsRun : Mesh → List Collapse → Type 0
IsRun m log = AreSteps (surface_of m) log

-- The place and the key of a pair after the collapses of a log.
abbrev pub place_of_pair : Mesh → List Collapse → ℕ → ℕ → Place
place_of_pair m log a b = best_place_of (planes_after m log) (surface_after m log) a b

abbrev pub key_of_pair : Mesh → List Collapse → ℕ → ℕ → Key
key_of_pair m log a b = key_of (planes_after m log) (surface_after m log) a b

-- A pair, the lesser vertex first, that is legal at its place.
pub record IsCandidate (m : Mesh) (log : List Collapse) (a b : ℕ) : Type 0 where
  pub ordered : a < b
  pub legal : IsLegalPair (surface_after m log) a b (place_of_pair m log a b)

-- It comes before every other one.
pub record IsLeastPair (m : Mesh) (log : List Collapse) (a b : ℕ) : Type 0 where
  pub candidate : IsCandidate m log a b
  pub least : (c d : ℕ) → IsCandidate m log c d → ((c ≡ a) × (d ≡ b)) ⊎
      (is_before (key_of_pair m log a b) (key_of_pair m log c d) ≡ true)

-- After the log `past` more faces than the target are left, and the entry collapses the least pair.
pub record IsStepTo (m : Mesh) (target : ℕ) (past : List Collapse) (c : Collapse) : Type 0 where
  pub more : target < face_count_of (surface_after m past)
  pub least : IsLeastPair m past c.t c.u
  pub entry : c ≡ entry_of (surface_after m past) c.t c.u (place_of_pair m past c.t c.u)

-- No more faces than the target are left, or no pair may be collapsed.
abbrev pub IsEnd : Mesh → ℕ → List Collapse → Type 0
IsEnd m target log =
    (face_count_of (surface_after m log) ≤ target) ⊎ ((a b : ℕ) → IsCandidate m log a b → ⊥)

abbrev pub AreStepsTo : Mesh → ℕ → List Collapse → List Collapse → Type 0
AreStepsTo m target past [] = IsEnd m target past
AreStepsTo m target past (c ∷ cs) =
    IsStepTo m target past c × AreStepsTo m target (past ++ c ∷ []) cs

-- The log of the run to a number of faces.
unfoldable pub IsRunTo : Mesh → ℕ → List Collapse → Type 0
IsRunTo m target log = AreStepsTo m target [] log

-- The log is the first part of the run to a number of faces: what goes on from it makes a run of
-- both.
abbrev pub IsBegun : Mesh → ℕ → List Collapse → Type 0
IsBegun m target past = (rest : List Collapse) → AreStepsTo m target past rest
    → IsRunTo m target (past ++ rest)
