-- The mesh that a front shows, as arrays of numbers, in the order of its frame text.
use Rattle.std.specs.Prelude.{◌≡◌, ℕ, ℤ, ◌+◌, ◌*◌, ◌<◌, Bool, true, List, [], ◌∷◌, length}
use Rattle.std.specs.Prelude.{slice_index_or}
use Rattle.std.specs.List.{flat_map}
use Rattle.pm_base.specs.Counts.{count}
use Rattle.pm_forest.specs.Forest.{Hierarchy, node_count}
use Rattle.pm_forest.specs.Fronts.{is_active, ancestor_of}
use Rattle.pm_forest.specs.Faces.{from_leaf}
use Rattle.pm_forest.specs.Places.{place_of_node}
use Rattle.pm_front.specs.Shown.{active_nodes, kept_faces}

-- The three coordinates of a node.
abbrev pub coordinates_of : Hierarchy → ℕ → List ℤ
coordinates_of h v = (place_of_node h v).x ∷ (place_of_node h v).y ∷ (place_of_node h v).z ∷ []

-- The places of the active nodes, three numbers for each.
abbrev pub place_array : Hierarchy → (ℕ → Bool) → List ℤ
place_array h T = flat_map (coordinates_of h) (active_nodes h T)

-- The node at corner e: the ancestor of the leaf there.
abbrev pub corner_node : Hierarchy → (ℕ → Bool) → ℕ → ℕ
corner_node h T e = ancestor_of h T (from_leaf h e)

-- The nodes at the corners of a face, in its corner order.
abbrev pub face_nodes : Hierarchy → (ℕ → Bool) → ℕ → List ℕ
face_nodes h T f =
    corner_node h T (3 * f) ∷ corner_node h T (3 * f + 1) ∷ corner_node h T (3 * f + 2) ∷ []

-- The corners of the kept faces as nodes, three for each face.
abbrev pub node_array : Hierarchy → (ℕ → Bool) → List ℕ
node_array h T = flat_map (face_nodes h T) (kept_faces h T)

-- At which position among the active nodes a node stands: how many have smaller numbers.
abbrev pub position_of : Hierarchy → (ℕ → Bool) → ℕ → ℕ
position_of h T v = count (is_active h T) v

-- The nodes at the corners of a face by their positions.
abbrev pub face_positions : Hierarchy → (ℕ → Bool) → ℕ → List ℕ
face_positions h T f =
    position_of h T (corner_node h T (3 * f)) ∷ position_of h T (corner_node h T (3 * f + 1))
    ∷ position_of h T (corner_node h T (3 * f + 2)) ∷ []

-- The corners of the kept faces as positions, three for each face.
abbrev pub position_array : Hierarchy → (ℕ → Bool) → List ℕ
position_array h T = flat_map (face_positions h T) (kept_faces h T)

-- A table that has the position of each active node at its number.
pub record ArePositions (h : Hierarchy) (T : ℕ → Bool) (table : List ℕ) : Type 0 where
  pub len : length table ≡ node_count h
  pub each : (v : ℕ) → v < node_count h → is_active h T v ≡ true
      → slice_index_or table v 0 ≡ position_of h T v
