-- The measure of the mesh that a front shows.
use Rattle.std.specs.Prelude.{ℕ, ℤ, zero, suc, pos, ◌+ℤ◌, ◌-ℤ◌, ◌+◌, ◌*◌, ◌/◌, nat_le, Bool, true}
use Rattle.std.specs.Prelude.{◌&&◌, Option, option_map, is_some, is_none}
use Rattle.pm_base.specs.Sides.{Net, face_of, next, twin_of}
use Rattle.pm_base.specs.Counts.{count}
use Rattle.pm_forest.specs.Forest.{Hierarchy, node_count}
use Rattle.pm_forest.specs.Fronts.{is_active}
use Rattle.pm_forest.specs.Faces.{face_count}
use Rattle.pm_forest.specs.Kept.{is_kept}
use Rattle.pm_beyond.specs.Walks.{walk, beyond_of}

-- A side of a kept face beyond which nothing stands, and one beyond which a side does.
unfoldable pub is_border_side : Hierarchy → (ℕ → Bool) → ℕ → Bool
is_border_side h T e = is_kept h T (face_of e) && is_none (beyond_of h T e)

unfoldable pub is_joined_side : Hierarchy → (ℕ → Bool) → ℕ → Bool
is_joined_side h T e = is_kept h T (face_of e) && is_some (beyond_of h T e)

-- How many nodes are active, how many faces are kept, and how many sides are border sides or
-- others.
abbrev pub nodes_shown : Hierarchy → (ℕ → Bool) → ℕ
nodes_shown h T = count (is_active h T) (node_count h)

abbrev pub faces_shown : Hierarchy → (ℕ → Bool) → ℕ
faces_shown h T = count (is_kept h T) (face_count h)

abbrev pub border_sides : Hierarchy → (ℕ → Bool) → ℕ
border_sides h T = count (is_border_side h T) (3 * face_count h)

abbrev pub joined_sides : Hierarchy → (ℕ → Bool) → ℕ
joined_sides h T = count (is_joined_side h T) (3 * face_count h)

-- Each border side is an edge, and so are each two sides that stand beyond each other.
abbrev pub edges_shown : Hierarchy → (ℕ → Bool) → ℕ
edges_shown h T = border_sides h T + joined_sides h T / 2

-- Nodes minus edges plus faces.
unfoldable pub euler_of : Hierarchy → (ℕ → Bool) → ℤ
euler_of h T = pos (nodes_shown h T) -ℤ pos (edges_shown h T) +ℤ pos (faces_shown h T)

-- The same of a mesh by its sides: each side without a twin is an edge, and so are each two twins.
abbrev pub edges_of : Net → ℕ
edges_of m =
    count (λ e. is_none (twin_of m e)) (3 * m.faces) + count (λ e. is_some (twin_of m e))
    (3 * m.faces) / 2

abbrev pub euler_of_mesh : Net → ℕ → ℤ
euler_of_mesh m vertices = pos vertices -ℤ pos (edges_of m) +ℤ pos m.faces

-- From a side beyond which a side stands: the side that follows that one in its face.
abbrev pub turn_at : Hierarchy → (ℕ → Bool) → ℕ → Option ℕ
turn_at h T e = option_map next (beyond_of h T e)

-- The border side after border side e: from the side that follows e in its face, while a side
-- stands beyond, on to the side that follows that one. No walk takes more steps than there are
-- sides.
unfoldable pub next_border : Hierarchy → (ℕ → Bool) → ℕ → ℕ
next_border h T e = walk (turn_at h T) (3 * face_count h) (next e)

-- The side reached after n border sides.
unfoldable pub border_after : Hierarchy → (ℕ → Bool) → ℕ → ℕ → ℕ
border_after h T e zero = e
border_after h T e (suc n) = next_border h T (border_after h T e n)

-- No side that is reached from e within n steps has a lesser number.
abbrev pub is_least_within : Hierarchy → (ℕ → Bool) → ℕ → ℕ → Bool
is_least_within h T e zero = true
is_least_within h T e (suc n) = nat_le e (border_after h T e n) && is_least_within h T e n

-- A border side that is the least of its loop; there are as many loops as such sides.
unfoldable pub begins_loop : Hierarchy → (ℕ → Bool) → ℕ → Bool
begins_loop h T e = is_border_side h T e && is_least_within h T e (3 * face_count h)

abbrev pub loops_shown : Hierarchy → (ℕ → Bool) → ℕ
loops_shown h T = count (begins_loop h T) (3 * face_count h)
