-- Of what kind the next word is, by the words before it.
use Rattle.std.specs.Prelude.{ℕ, ◌+◌, ◌*◌, ◌%◌, ◌==◌, ◌&&◌, ◌||◌, not, nat_lt, min, max}
use Rattle.std.specs.Prelude.{Bool, if◌then◌else◌}
use Rattle.pm_pack.specs.declared.grid.Axis.{Axis}
use Rattle.pm_pack.specs.Rings.{input_at}
use Rattle.pm_pack.specs.Pasts.{Seen, word_at, split_node, has_leaf, first_child, second_child}
use Rattle.pm_pack.specs.Pasts.{own_child, other_child, beyond, edge}

-- How many leaves, roughly.
unfoldable pub width_class : ℕ → ℕ
width_class width =
    if nat_lt width 8 then width else
    if nat_lt width 32 then 8 else
    if nat_lt width 256 then 9 else
    if nat_lt width 4096 then 10 else 11

-- The kind of a coordinate: of a leaf on a grid, of another node there, and off a grid.
abbrev pub place_kind : Axis → ℕ → ℕ
place_kind a width = if a.step == 0 then 1024 else if width == 1 then 1 else 2

unfoldable pub coordinate_kind : Seen → ℕ → ℕ
coordinate_kind seen field =
    if field == 18 then place_kind seen.grid.x (word_at seen 17) else
    if field == 19 then place_kind seen.grid.y (word_at seen 17) else
    if field == 20 then place_kind seen.grid.z (word_at seen 17) else
    if field == 22 then place_kind seen.grid.x (second_child seen).width else
    if field == 23 then place_kind seen.grid.y (second_child seen).width else
    place_kind seen.grid.z (second_child seen).width

-- The kind of a corner: how many leaves the children have, and how the faces on the edge are
-- turned.
unfoldable pub corner_kind : Seen → ℕ
corner_kind seen =
    16 * (16 * min (own_child seen).width 3 + min (other_child seen).width 3)
    + (edge seen % 3 * 3 + beyond seen (edge seen) % 3)

-- Which corner of the new face is under neither child.
abbrev pub is_outer : Seen → ℕ → Bool
is_outer seen leaf = not (has_leaf (first_child seen) leaf || has_leaf (second_child seen) leaf)

abbrev pub outer_place : Seen → ℕ
outer_place seen =
    if is_outer seen (word_at seen 27) then 0 else if is_outer seen (word_at seen 28) then 1 else 2

-- How a face is turned, and whether its input word is odd.
abbrev pub turn : Seen → ℕ → ℕ
turn seen side = side % 3 * 2 + input_at seen.faces side % 2

-- How many leaves the greater child has.
abbrev pub most_leaves : Seen → ℕ
most_leaves seen = max (own_child seen).width (other_child seen).width

-- The kind of a face's input word: how it and the faces on the edge are turned, and how many leaves
-- the children have.
unfoldable pub face_kind : Seen → ℕ
face_kind seen =
    4 * (36 * outer_place seen + 6 * turn seen (edge seen) + turn seen (beyond seen (edge seen)))
    + min (most_leaves seen) 3

-- The kind of the next word: how many leaves the split node has, roughly, and its first child where
-- that is known, but for coordinates, corners and input words of faces.
unfoldable pub kind_of : Seen → ℕ
kind_of seen =
    if nat_lt seen.spot.field 17 then 0 else
    if seen.spot.field == 17 then width_class (split_node seen).width else
    if nat_lt 17 seen.spot.field && nat_lt seen.spot.field 21
    then coordinate_kind seen seen.spot.field else
    if nat_lt 21 seen.spot.field && nat_lt seen.spot.field 25
    then coordinate_kind seen seen.spot.field else
    if nat_lt 26 seen.spot.field && nat_lt seen.spot.field 30 then corner_kind seen else
    if seen.spot.field == 30 then face_kind seen else
    16 * width_class (split_node seen).width + width_class (word_at seen 17)
