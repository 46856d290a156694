-- What is guessed of the next word by the words before it.
use Rattle.std.specs.Prelude.{ℕ, ◌+◌, ◌-◌, ◌*◌, ◌==◌, not, nat_lt, min}
use Rattle.std.specs.Prelude.{if◌then◌else◌, List, [], ◌∷◌, length}
use Rattle.pm_pack.specs.declared.past.Node.{Node}
use Rattle.pm_pack.specs.declared.ring.Spoke.{Spoke}
use Rattle.pm_pack.specs.declared.word.Guess.{Guess}
use Rattle.pm_pack.specs.Guesses.{ahead, moved_ahead}
use Rattle.pm_pack.specs.Grids.{capped, near, input_by, is_grid}
use Rattle.pm_pack.specs.Planes.{node, node_at, way_to, normal, level}
use Rattle.pm_pack.specs.Rings.{next_side, input_at}
use Rattle.pm_pack.specs.Pasts.{Seen, word_at, split_node, has_leaf, first_child, second_child}
use Rattle.pm_pack.specs.Pasts.{own_child, other_child, beyond, corner_at, edge}
use Rattle.pm_pack.specs.Kinds.{kind_of}
use Rattle.pm_pack.specs.Details.{detail_of}

-- The input word of the first leaf to which the sides of a ring lead, and another word where none
-- does.
unfoldable pub input_beside : List Node → List Spoke → ℕ → ℕ
input_beside nodes [] other = other
input_beside nodes (s ∷ ring) other =
    if (node_at nodes s.node).width == 1 then (node_at nodes s.node).input
    else input_beside nodes ring other

-- That of a leaf beside the split node, and the last word of a field where none is.
abbrev pub beside : Seen → ℕ → ℕ
beside seen field = input_beside seen.nodes seen.ring (word_at seen field)

-- An input word: 0 for a node of more than one leaf, else by the grid, and where there is none the
-- one after that of a leaf beside it.
unfoldable pub input_guess : Seen → Node → ℕ → ℕ
input_guess seen n last =
    if not (n.width == 1) then 0 else
    if is_grid seen.grid then input_by seen.grid n else capped (last + 1)

-- The number as far beyond `over` as that is beyond `from`.
abbrev pub mirrored : ℕ → ℕ → ℕ
mirrored over from = moved_ahead over (ahead from over)

-- The height over the axes x and y by the plane round the split node, and another word where that
-- is steep.
unfoldable pub leveled : Seen → ℕ → ℕ → ℕ → ℕ
leveled seen x y other =
    level (normal seen.nodes (split_node seen) seen.ring) (split_node seen)
    (way_to (split_node seen) (node x y 0 0 0 0)) other

-- The words that are guessed last: of a root, of the head of a record, and of a new face.
unfoldable pub root_guess : Seen → ℕ → ℕ
root_guess seen field =
    if not (field == 11) then word_at seen field else
    if word_at seen 10 == 1 then capped (word_at seen 11 + 1) else 0

unfoldable pub first_guess : Seen → ℕ → ℕ
first_guess seen field =
    if field == 16 then capped (length seen.nodes) else
    if field == 17 then (split_node seen).width else
    if field == 18 then near seen.grid.x (word_at seen 17) (split_node seen).x else
    if field == 19 then near seen.grid.y (word_at seen 17) (split_node seen).y else
    if field == 20
    then near seen.grid.z (word_at seen 17)
    (leveled seen (word_at seen 18) (word_at seen 19) (split_node seen).z)
    else input_guess seen (first_child seen) (beside seen 21)

-- The input word that u's follows: that of t where t has one leaf.
abbrev pub last_input : Seen → ℕ
last_input seen = if word_at seen 17 == 1 then word_at seen 21 else beside seen 25

-- The mirrored coordinates of t.
abbrev pub mirrored_x : Seen → ℕ
mirrored_x seen = mirrored (split_node seen).x (word_at seen 18)

abbrev pub mirrored_y : Seen → ℕ
mirrored_y seen = mirrored (split_node seen).y (word_at seen 19)

abbrev pub mirrored_z : Seen → ℕ
mirrored_z seen = mirrored (split_node seen).z (word_at seen 20)

unfoldable pub second_guess : Seen → ℕ → ℕ
second_guess seen field =
    if field == 22 then near seen.grid.x (second_child seen).width (mirrored_x seen) else
    if field == 23 then near seen.grid.y (second_child seen).width (mirrored_y seen) else
    if field == 24
    then near seen.grid.z (second_child seen).width
    (leveled seen (word_at seen 22) (word_at seen 23) (mirrored_z seen))
    else if field == 25 then input_guess seen (second_child seen) (last_input seen)
    else 3

-- One more than the input word of a side's face.
abbrev pub input_after : Seen → ℕ → ℕ
input_after seen side = capped (input_at seen.faces side + 1)

-- A corner after another one.
unfoldable pub corner_guess : Seen → ℕ → ℕ
corner_guess seen last =
    if has_leaf (own_child seen) last then (other_child seen).first else
    if has_leaf (other_child seen) last then (split_node seen).first else (own_child seen).first

unfoldable pub face_guess : Seen → ℕ → ℕ
face_guess seen field =
    if field == 27 then (split_node seen).first else
    if nat_lt field 30 then corner_guess seen (word_at seen (field - 1)) else
    if field == 30 then input_after seen (edge seen) else
    if field == 31 then beyond seen (edge seen) else
    if word_at seen 31 == 0 then edge seen else beyond seen (word_at seen 31)

unfoldable pub word_guess : Seen → ℕ
word_guess seen =
    if nat_lt seen.spot.field 16 then root_guess seen seen.spot.field else
    if nat_lt seen.spot.field 22 then first_guess seen seen.spot.field else
    if nat_lt seen.spot.field 27 then second_guess seen seen.spot.field else
    face_guess seen seen.spot.field

-- The last guess of the next word. Each field has sets of its own.
unfoldable pub guess_of : Seen → Guess
guess_of seen = record {
  word = capped (word_guess seen);
  set = 3 * min seen.spot.field 33;
  kind = kind_of seen;
  detail = detail_of seen;
}

-- The corners of the faces on the edge: under the own child, under the other, and the two opposite.
unfoldable pub own_corner : Seen → ℕ → ℕ
own_corner seen side = if side == 0 then (own_child seen).first else corner_at seen side

unfoldable pub other_corner : Seen → ℕ → ℕ
other_corner seen side =
    if beyond seen side == 0 then (other_child seen).first
    else corner_at seen (next_side (beyond seen side))

abbrev pub outer_corners : Seen → ℕ → List ℕ
outer_corners seen side =
    corner_at seen (next_side side) ∷ corner_at seen (beyond seen side) ∷ []

-- What is guessed of a corner before that, by the corner before it.
unfoldable pub corner_firsts : Seen → ℕ → List ℕ
corner_firsts seen last =
    if has_leaf (own_child seen) last then other_corner seen (edge seen) ∷ [] else
    if has_leaf (other_child seen) last then outer_corners seen (edge seen) else
    own_corner seen (edge seen) ∷ []

-- What is guessed of the node that a record splits, by the last one.
abbrev pub split_firsts : ℕ → List ℕ
split_firsts last = capped (last + 2) ∷ (last - 1) ∷ capped (last + 3) ∷ []

-- What is guessed of the next word before that.
unfoldable pub firsts_of : Seen → List ℕ
firsts_of seen =
    if seen.spot.field == 16 then split_firsts (word_at seen 16) else
    if seen.spot.field == 27
    then own_corner seen (edge seen) ∷ other_corner seen (edge seen)
    ∷ outer_corners seen (edge seen)
    else if seen.spot.field == 28 then corner_firsts seen (word_at seen 27)
    else if seen.spot.field == 29 then corner_firsts seen (word_at seen 28)
    else if seen.spot.field == 30 then input_after seen (beyond seen (edge seen)) ∷ [] else []
