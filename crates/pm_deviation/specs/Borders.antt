-- The border of the leaf mesh: its sides without a twin.
use Rattle.std.specs.Prelude.{ℕ, ◌*◌, Bool, ◌||◌, ◌&&◌, List}
use Rattle.std.specs.List.{filter, list_any, range_with_len}
use Rattle.std.specs.Option.{is_none}
use Rattle.pm_forest.specs.Forest.{Hierarchy, holds}
use Rattle.pm_forest.specs.Faces.{face_count, from_leaf, to_leaf}
use Rattle.pm_beyond.specs.Walks.{leaf_twin}

-- Side e of the leaf mesh has no twin, and one of its two ends is under node v.
abbrev pub is_border_side_under : Hierarchy → ℕ → ℕ → Bool
is_border_side_under h v e =
    is_none (leaf_twin h e) && (holds h v (from_leaf h e) || holds h v (to_leaf h e))

-- All such sides.
abbrev pub border_sides_under : Hierarchy → ℕ → List ℕ
border_sides_under h v = filter (is_border_side_under h v) (range_with_len 0 (3 * face_count h))

-- A side of the leaf mesh has no twin: the mesh is seen from both sides.
unfoldable pub has_border : Hierarchy → Bool
has_border h = list_any (λ e. is_none (leaf_twin h e)) (range_with_len 0 (3 * face_count h))
