-- What the positions are.
use Rattle.std.specs.Prelude.{◌≡◌, ℕ, ◌*◌, ◌<◌, Bool, length, slice_index_or}
use Rattle.pm_forest.specs.Forest.{Hierarchy}
use Rattle.pm_forest.specs.Faces.{face_count}
use Rattle.pm_forest.specs.Rules.{HasShape}
use Rattle.pm_front.specs.Shown.{active_nodes}
use Rattle.pm_arrays.specs.Arrays.{corner_node, position_of}

-- The node at a corner is active, and stands at its position among the active nodes.
abbrev pub PositionsAreSound : Type 0
PositionsAreSound =
    (h : Hierarchy) → HasShape h → (T : ℕ → Bool) (e : ℕ) → e < 3 * face_count h
    → (position_of h T (corner_node h T e) < length (active_nodes h T))
    × (slice_index_or (active_nodes h T) (position_of h T (corner_node h T e)) 0
    ≡ corner_node h T e)
