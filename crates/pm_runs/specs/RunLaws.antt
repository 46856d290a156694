-- The laws of runs, each as a statement. A run starts from a well-formed oriented manifold.
use Rattle.std.specs.Prelude.{◌≡◌, ℕ, ◌+◌, ◌*◌, ◌<◌, ◌≤◌, ◌↔◌, true, List, [], ◌∷◌, ◌++◌, length}
use Rattle.std.specs.Prelude.{take, slice_index_or}
use Rattle.pm_base.specs.declared.log.Collapse.{Collapse}
use Rattle.pm_base.specs.Meshes.{Mesh}
use Rattle.pm_base.specs.Sides.{net_of}
use Rattle.pm_base.specs.Fans.{IsOrientedManifold}
use Rattle.pm_runs.specs.Surfaces.{next_vertex, is_live, net_of_surface, surface_of, IsSurface}
use Rattle.pm_runs.specs.Surfaces.{collapsed}
use Rattle.pm_runs.specs.Planes.{planes_at, planes_after}
use Rattle.pm_runs.specs.Runs.{IsStartOfRun, surface_after, IsStep, IsRun, place_of_pair}
use Rattle.pm_runs.specs.Runs.{key_of_pair, IsCandidate, IsStepTo, IsEnd, IsRunTo, IsBegun}
use Rattle.pm_runs.specs.Merged.{IsProper, Alike, net_from}
use Rattle.pm_runs.specs.Counts.{live_count_of, plane_count_of, IsSpared}
use Rattle.pm_runs.specs.Nearby.{IsOther, IsFar}

-- A log with one more entry is a run exactly where the log is one and the entry is a step of the
-- surface after it.
abbrev pub RunsGrow : Type 0
RunsGrow = (m : Mesh) → IsRun m [] × (surface_after m [] ≡ surface_of m)
    × ((log : List Collapse) (c : Collapse) →
    (IsRun m (log ++ c ∷ []) ↔ (IsRun m log × IsStep (surface_after m log) c)) ×
    (surface_after m (log ++ c ∷ []) ≡ collapsed (surface_after m log) c.t c.u c.place))

-- Each entry is a step of the surface after those before it.
abbrev pub EntriesAreSteps : Type 0
EntriesAreSteps = (m : Mesh) (log : List Collapse) → IsRun m log → (i : ℕ) (c : Collapse)
    → i < length log →
    IsStep (surface_after m (take i log)) (slice_index_or log i c)

-- No side and no face comes twice.
abbrev pub RunsStayProper : Type 0
RunsStayProper = (m : Mesh) → IsStartOfRun m → (log : List Collapse) → IsRun m log
    → IsSurface (surface_after m log) ×
    IsProper (net_of_surface (surface_after m log))

-- The surface after a log has the faces of the input after its merges.
abbrev pub RunsAreMerges : Type 0
RunsAreMerges = (m : Mesh) (log : List Collapse) → IsRun m log →
    Alike (net_from (net_of m.faces) log) (net_of_surface (surface_after m log))

-- Each surface of a run is an oriented manifold.
abbrev pub RunsStayManifolds : Type 0
RunsStayManifolds = (m : Mesh) → IsStartOfRun m → (log : List Collapse) → IsRun m log →
    IsOrientedManifold (net_of_surface (surface_after m log))

-- The vertices that are left are those that no collapse merged into another.
abbrev pub SparedVerticesAreLive : Type 0
SparedVerticesAreLive = (m : Mesh) → IsStartOfRun m → (log : List Collapse) → IsRun m log →
    (next_vertex (surface_after m log) ≡ length m.points + length log) ×
    ((v : ℕ) → (is_live (surface_after m log) v ≡ true)
    ↔ ((v < length m.points + length log) × IsSpared v log))

-- Each collapse takes one live vertex away, and never the last one.
abbrev pub RunsAreShort : Type 0
RunsAreShort = (m : Mesh) → IsStartOfRun m → (log : List Collapse) → IsRun m log →
    (length log + live_count_of (surface_after m log) ≡ length m.points) ×
    (0 < length m.points → length log < length m.points)

-- What a vertex stands for never changes.
abbrev pub PlanesStay : Type 0
PlanesStay = (m : Mesh) (log more : List Collapse) → IsRun m (log ++ more) → (v : ℕ) →
    v < length m.points + length log → planes_after m (log ++ more) v ≡ planes_after m log v

-- The live vertices stand for as many planes as at first, three a face at most.
abbrev pub PlanesAreKept : Type 0
PlanesAreKept = (m : Mesh) → IsStartOfRun m → (log : List Collapse) → IsRun m log →
    let all = plane_count_of (planes_after m log) (surface_after m log) in
    (all ≡ plane_count_of (planes_at m) (surface_of m)) × (all ≤ 3 * length m.faces) ×
    ((a b : ℕ) → a < b → is_live (surface_after m log) a ≡ true
    → is_live (surface_after m log) b ≡ true →
    length (planes_after m log a) + length (planes_after m log b) ≤ all)

-- A pair that a collapse neither merges nor makes keeps its place and its key.
abbrev pub KeysAreKept : Type 0
KeysAreKept = (m : Mesh) (log : List Collapse) (c : Collapse) → let s =
    surface_after m log in IsStep s c →
    (p q : ℕ) → IsOther s c.t c.u p → IsOther s c.t c.u q →
    (place_of_pair m (log ++ c ∷ []) p q ≡ place_of_pair m log p q) ×
    (key_of_pair m (log ++ c ∷ []) p q ≡ key_of_pair m log p q)

-- And one that is far from a collapse may be collapsed afterwards exactly where it might before.
abbrev pub CandidatesAreLocal : Type 0
CandidatesAreLocal = (m : Mesh) → IsStartOfRun m → (log : List Collapse) (c : Collapse)
    → IsRun m log →
    let s = surface_after m log in IsStep s c → (p q : ℕ) → IsFar s c.t c.u p → IsFar s c.t c.u q →
    IsCandidate m log p q ↔ IsCandidate m (log ++ c ∷ []) p q

-- The run to a number of faces has one log, which is a run.
abbrev pub OneRunToATarget : Type 0
OneRunToATarget = (m : Mesh) (target : ℕ) (log : List Collapse) → IsRunTo m target log
    → IsRun m log ×
    ((other : List Collapse) → IsRunTo m target other → other ≡ log)

-- It can be built entry by entry.
abbrev pub RunsAreBuilt : Type 0
RunsAreBuilt =
    (m : Mesh) (target : ℕ) → IsBegun m target [] × ((log : List Collapse) → IsBegun m target log →
    ((c : Collapse) → IsStepTo m target log c → IsBegun m target (log ++ c ∷ [])) ×
    (IsEnd m target log → IsRunTo m target log))
