-- The laws of the hierarchy of a run, each as a statement.
use Rattle.std.specs.Prelude.{◌≡◌, ℕ, ◌+◌, ◌*◌, ◌<◌, ◌↔◌, true, List, length, take}
use Rattle.std.specs.List.{All}
use Rattle.pm_base.specs.Place.{IsPlace}
use Rattle.pm_base.specs.Meshes.{Mesh}
use Rattle.pm_base.specs.Sides.{Net, Stands}
use Rattle.pm_base.specs.declared.log.Collapse.{Collapse}
use Rattle.pm_forest.specs.Forest.{leaf_count, record_count}
use Rattle.pm_forest.specs.Fronts.{IsActive, below}
use Rattle.pm_forest.specs.Faces.{face_count}
use Rattle.pm_forest.specs.Places.{place_of_node}
use Rattle.pm_forest.specs.Rules.{HasShape}
use Rattle.pm_forest.specs.Meshes.{input_mesh_of}
use Rattle.pm_runs.specs.Surfaces.{Surface, is_live, place_at, net_of_surface}
use Rattle.pm_runs.specs.Runs.{IsStartOfRun, surface_after, IsRun}
use Rattle.pm_beyond.specs.Valid.{IsValid}
use Rattle.pm_firm.specs.Firm.{IsFirm}
use Rattle.pm_number.specs.Stages.{run_of, side_by}
use Rattle.pm_number.specs.Numbering.{node_number, face_number, hierarchy_of_run}
use Rattle.pm_firm.specs.Firm.{shown_net}

-- All places of a mesh and of a log are on the grid.
pub record AreOnGrid (m : Mesh) (log : List Collapse) : Type 0 where
  pub points : All IsPlace m.points
  pub merged : All (λ (c : Collapse). IsPlace c.place) log

-- The hierarchy of a run has the right shape.
abbrev pub HierarchiesHaveShape : Type 0
HierarchiesHaveShape = (m : Mesh) → IsStartOfRun m → (log : List Collapse) → IsRun m log
    → AreOnGrid m log →
    HasShape (hierarchy_of_run m log)

-- It keeps the mesh that the run began with: its leaves are that mesh's vertices. Each collapse is
-- a record.
pub record KeepsMesh (m : Mesh) (log : List Collapse) : Type 0 where
  pub mesh : input_mesh_of (hierarchy_of_run m log) ≡ m
  pub leaves : leaf_count (hierarchy_of_run m log) ≡ length m.points
  pub faces : face_count (hierarchy_of_run m log) ≡ length m.faces
  pub records : record_count (hierarchy_of_run m log) ≡ length log

abbrev pub HierarchiesKeepMeshes : Type 0
HierarchiesKeepMeshes = (m : Mesh) → IsStartOfRun m → (log : List Collapse) → IsRun m log
    → KeepsMesh m log

-- The surface after the first i collapses, and its sides.
abbrev pub surface_at : Mesh → List Collapse → ℕ → Surface
surface_at m log i = surface_after m (take i log)

abbrev pub net_of_log_at : Mesh → List Collapse → ℕ → Net
net_of_log_at m log i = net_of_surface (surface_at m log i)

-- The node of a vertex, and the side of the hierarchy that a side of the input becomes.
abbrev pub node_in : Mesh → List Collapse → ℕ → ℕ
node_in m log v = node_number (run_of m log) v

abbrev pub side_numbered_in : Mesh → List Collapse → ℕ → ℕ
side_numbered_in m log e = side_by (face_number (run_of m log)) e

-- What the front of the records below k shows, and its active nodes.
abbrev pub shown_at : Mesh → List Collapse → ℕ → Net
shown_at m log k = shown_net (hierarchy_of_run m log) (below k)

abbrev pub IsActiveAt : Mesh → List Collapse → ℕ → ℕ → Type 0
IsActiveAt m log k n = IsActive (hierarchy_of_run m log) (below k) n

-- The surface after the first i collapses, with other numbers, is what the front of the records
-- below k shows: the same faces stand, with the nodes of their corners; the live vertices are the
-- active nodes, each at its place.
pub record IsShown (m : Mesh) (log : List Collapse) (i k : ℕ) : Type 0 where
  pub sides : (e : ℕ) → e < 3 * length m.faces →
      Stands (net_of_log_at m log i) e ↔ Stands (shown_at m log k) (side_numbered_in m log e)
  pub all_sides : (e : ℕ) → e < 3 * length m.faces → (g : ℕ) × (g < 3 * length m.faces)
      × (side_numbered_in m log g ≡ e)
  pub corners : (e : ℕ) → Stands (net_of_log_at m log i) e →
      (shown_at m log k).from (side_numbered_in m log e)
      ≡ node_in m log ((net_of_log_at m log i).from e)
  pub vertices : (v : ℕ) → is_live (surface_at m log i) v ≡ true
      → IsActiveAt m log k (node_in m log v)
  pub all_vertices : (n : ℕ) → IsActiveAt m log k n →
      (v : ℕ) × (is_live (surface_at m log i) v ≡ true) × (node_in m log v ≡ n)
  pub once : (v w : ℕ) → is_live (surface_at m log i) v ≡ true
      → is_live (surface_at m log i) w ≡ true →
      node_in m log v ≡ node_in m log w → v ≡ w
  pub places : (v : ℕ) → is_live (surface_at m log i) v ≡ true →
      place_of_node (hierarchy_of_run m log) (node_in m log v) ≡ place_at (surface_at m log i) v

abbrev pub SurfacesAreShown : Type 0
SurfacesAreShown = (m : Mesh) → IsStartOfRun m → (log : List Collapse) → IsRun m log → (i k : ℕ)
    → i + k ≡ length log →
    IsShown m log i k

-- It is valid where it has the right shape.
abbrev pub HierarchiesOfRunsAreValid : Type 0
HierarchiesOfRunsAreValid = (m : Mesh) → IsStartOfRun m → (log : List Collapse) → IsRun m log →
    HasShape (hierarchy_of_run m log) → IsValid (hierarchy_of_run m log)

-- And firm.
abbrev pub HierarchiesOfRunsAreFirm : Type 0
HierarchiesOfRunsAreFirm = (m : Mesh) → IsStartOfRun m → (log : List Collapse) → IsRun m log →
    HasShape (hierarchy_of_run m log) → IsFirm (hierarchy_of_run m log)
