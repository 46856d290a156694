-- The laws of runs by a policy, each as a statement. `p` is any policy.
use Rattle.std.specs.Prelude.{◌≡◌, ◌≢◌, ℕ, ◌+◌, ◌-◌, ◌*◌, ◌<◌, ◌≤◌, ◌⊎◌, ◌↔◌, Bool}
use Rattle.std.specs.Prelude.{true, List, [], ◌∷◌, ◌++◌, length, take}
use Rattle.pm_base.specs.Place.{Place}
use Rattle.pm_base.specs.declared.log.Collapse.{Collapse}
use Rattle.pm_base.specs.Meshes.{Mesh}
use Rattle.pm_runs.specs.Surfaces.{surface_of, is_live}
use Rattle.pm_runs.specs.Runs.{IsStartOfRun, surface_after, IsStep, IsRun, IsRunTo}
use Rattle.pm_runs.specs.Counts.{plane_count_of, IsSpared}
use Rattle.pm_runs.specs.Nearby.{IsOther, IsFar}
use Rattle.pm_keeping.specs.Keeping.{IsRunKeeping}
use Rattle.pm_policies.specs.Policies.{Policy, taken_after, brought_after, planes_by}
use Rattle.pm_policies.specs.Policies.{pair_planes_by, place_by, key_by, plain_keeping, plain}
use Rattle.pm_policies.specs.PolicyRuns.{IsCandidateBy, IsLeastPairBy, IsStepBy, HasNoCandidateBy}
use Rattle.pm_policies.specs.PolicyRuns.{IsPutBy, IsEndBy, IsRunBy, IsBegunBy}
use Rattle.pm_policies.specs.Bounds.{BringsAtMost, most_brought, TakesAtMost, TakesByFaces}

-- What a vertex has at first.
pub record StartsWith (p : Policy) (m : Mesh) (v : ℕ) : Type 0 where
  pub taken : taken_after p m [] v ≡ p.taken (surface_of m) v
  pub brought : brought_after p m [] v ≡ p.brought m v

-- What the vertex that a collapse makes has after it, and that the others have what they had.
pub record GoesOnWith (p : Policy) (m : Mesh) (log : List Collapse) (c : Collapse) : Type 0 where
  pub taken : taken_after p m (log ++ c ∷ []) c.s ≡ p.taken (surface_after m (log ++ c ∷ [])) c.s
  pub brought : brought_after p m (log ++ c ∷ []) c.s ≡
      brought_after p m log c.t ++ brought_after p m log c.u
  pub others : (v : ℕ) → v ≢ c.s →
      (taken_after p m (log ++ c ∷ []) v ≡ taken_after p m log v) ×
      (brought_after p m (log ++ c ∷ []) v ≡ brought_after p m log v)

-- The vertex that a collapse makes takes planes of the surface after it, and is brought those of
-- both ends.
abbrev pub PlanesAreTaken : Type 0
PlanesAreTaken =
    (p : Policy) (m : Mesh) → ((v : ℕ) → StartsWith p m v) ×
    ((log : List Collapse) (c : Collapse) → GoesOnWith p m log c)

-- What a vertex stands for never changes.
abbrev pub PlanesStayBy : Type 0
PlanesStayBy =
    (p : Policy) (m : Mesh) (log more : List Collapse) → IsRun m (log ++ more) → (v : ℕ) →
    v < length m.points + length log →
    (taken_after p m (log ++ more) v ≡ taken_after p m log v) ×
    (brought_after p m (log ++ more) v ≡ brought_after p m log v)

-- So they are taken of the surface in which a vertex is first there: the input's vertices are there
-- from the beginning, and each collapse makes the next one.
abbrev pub PlanesAreOfFirstSurfaces : Type 0
PlanesAreOfFirstSurfaces =
    (p : Policy) (m : Mesh) (log : List Collapse) → IsRun m log → (v : ℕ) →
    v < length m.points + length log →
    taken_after p m log v ≡ p.taken (surface_after m (take (v + 1 - length m.points) log)) v

-- How many planes there are after a run, where the input's vertices together bring at most
-- `brought` and no vertex takes more than `taken`.
pub record AreFew (p : Policy) (m : Mesh) (log : List Collapse) (brought taken : ℕ) : Type 0 where
  pub all : plane_count_of (brought_after p m log) (surface_after m log) ≤ brought
  pub each : (v : ℕ) → length (taken_after p m log v) ≤ taken
  pub vertex : (v : ℕ) → is_live (surface_after m log) v ≡ true →
      length (planes_by p m log v) ≤ brought + taken
  pub pair : (a b : ℕ) → a < b → is_live (surface_after m log) a ≡ true →
      is_live (surface_after m log) b ≡ true →
      length (pair_planes_by p m log a b) ≤ brought + 2 * taken

-- The live vertices have as many brought planes as at first. Where a policy gives few planes, no
-- vertex and no pair has many.
abbrev pub PlanesAreFew : Type 0
PlanesAreFew =
    (p : Policy) (m : Mesh) → IsStartOfRun m →
    ((log : List Collapse) → IsRun m log →
    (plane_count_of (brought_after p m log) (surface_after m log) ≡
    plane_count_of (p.brought m) (surface_of m)) ×
    ((n more taken : ℕ) → BringsAtMost p m n more → TakesAtMost p m taken →
    AreFew p m log (most_brought m n more) taken)) ×
    ((n : ℕ) → TakesByFaces p n → TakesAtMost p m (n * length m.faces))

-- A pair that a collapse neither merges nor makes keeps its place and its key.
abbrev pub KeysAreKeptBy : Type 0
KeysAreKeptBy =
    (p : Policy) (m : Mesh) (log : List Collapse) (c : Collapse) →
    let s = surface_after m log in IsStep s c → (a b : ℕ) → IsOther s c.t c.u a →
    IsOther s c.t c.u b →
    (place_by p m (log ++ c ∷ []) a b ≡ place_by p m log a b) ×
    (key_by p m (log ++ c ∷ []) a b ≡ key_by p m log a b)

-- And one that is far from a collapse may be collapsed afterwards exactly where it might before.
abbrev pub CandidatesAreLocalBy : Type 0
CandidatesAreLocalBy =
    (p : Policy) (m : Mesh) → IsStartOfRun m → (log : List Collapse) (c : Collapse) → IsRun m log →
    let s = surface_after m log in IsStep s c → (a b : ℕ) → IsFar s c.t c.u a →
    IsFar s c.t c.u b → IsCandidateBy p m log a b ↔ IsCandidateBy p m (log ++ c ∷ []) a b

-- What is known of the log of a run by a policy: it is a run, no collapse of it takes a vertex that
-- the policy keeps, and there is no other log.
pub record IsTheRunBy (p : Policy) (m : Mesh) (target : ℕ) (log : List Collapse) : Type 0 where
  pub run : IsRun m log
  pub spared : (v : ℕ) → p.kept v ≡ true → IsSpared v log
  pub one : (other : List Collapse) → IsRunBy p m target other → other ≡ log

abbrev pub OneRunByAPolicy : Type 0
OneRunByAPolicy =
    (p : Policy) (m : Mesh) (target : ℕ) (log : List Collapse) → IsRunBy p m target log →
    IsTheRunBy p m target log

-- It can be built entry by entry.
abbrev pub RunsByAreBuilt : Type 0
RunsByAreBuilt =
    (p : Policy) (m : Mesh) (target : ℕ) → IsBegunBy p m target [] ×
    ((log : List Collapse) → IsBegunBy p m target log →
    ((c : Collapse) → IsStepBy p m target log c → IsBegunBy p m target (log ++ c ∷ [])) ×
    (IsEndBy p m target log → IsRunBy p m target log))

-- Some pair is the least, and is put somewhere, or there is none.
abbrev pub HasLeastBy : Policy → Mesh → List Collapse → Type 0
HasLeastBy p m log =
    ((a : ℕ) × (b : ℕ) × (place : Place) × IsLeastPairBy p m log a b
    × IsPutBy p m log a b place) ⊎ HasNoCandidateBy p m log

-- Where it can be said after each run which pair is the least, and where it is put, there is a run
-- to each target.
abbrev pub SomeRunByAPolicy : Type 0
SomeRunByAPolicy =
    (p : Policy) (m : Mesh) → IsStartOfRun m →
    ((log : List Collapse) → IsRun m log → HasLeastBy p m log) →
    (target : ℕ) → (log : List Collapse) × IsRunBy p m target log

-- The run to a number of faces is that of one policy.
abbrev pub PlainRunIsTheRun : Type 0
PlainRunIsTheRun =
    (m : Mesh) (target : ℕ) (log : List Collapse) →
    IsRunBy plain m target log ↔ IsRunTo m target log

-- So is the one that keeps some vertices.
abbrev pub PlainKeepingIsKeeping : Type 0
PlainKeepingIsKeeping =
    (kept : ℕ → Bool) (m : Mesh) (target : ℕ) (log : List Collapse) →
    IsRunBy (plain_keeping kept) m target log ↔ IsRunKeeping kept m target log
