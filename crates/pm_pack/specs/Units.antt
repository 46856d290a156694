-- What the end of a unit makes known.
use Rattle.std.specs.Prelude.{ℕ, ◌+◌, ◌-◌, ◌==◌, ◌&&◌, Bool, if◌then◌else◌}
use Rattle.std.specs.Prelude.{List, [], ◌∷◌, ◌++◌, length, get_or, slice_set}
use Rattle.pm_pack.specs.declared.grid.Grid.{Grid}
use Rattle.pm_pack.specs.declared.past.Node.{Node}
use Rattle.pm_pack.specs.Fields.{spot_after}
use Rattle.pm_pack.specs.Grids.{capped, with_pair, with_leaf}
use Rattle.pm_pack.specs.Rings.{Faces, next_side, previous_side, at_side, linked, with_face}
use Rattle.pm_pack.specs.Rings.{ring_of, first_side, shared}
use Rattle.pm_pack.specs.Pasts.{Seen, word_at, end_of, has_leaf, root_made, first_child}
use Rattle.pm_pack.specs.Pasts.{second_child, is_left, own_child, edge}

-- The new face's inner side, which starts at its first corner under that child.
abbrev pub inner_corner : Seen → ℕ
inner_corner seen =
    if has_leaf (own_child seen) (word_at seen 27) then 0 else
    if has_leaf (own_child seen) (word_at seen 28) then 1 else
    if has_leaf (own_child seen) (word_at seen 29) then 2 else 0

abbrev pub inner_made : Seen → ℕ
inner_made seen = capped (capped (length seen.faces.corners) + (inner_corner seen + 1))

-- The node over a corner of the new face: a child, and else that to which the edge leads.
abbrev pub over : Seen → ℕ → ℕ
over seen leaf =
    if has_leaf (first_child seen) leaf then capped (length seen.nodes - 2) else
    if has_leaf (second_child seen) leaf then capped (length seen.nodes - 1) else
    at_side seen.faces.nodes (next_side (edge seen))

abbrev pub nodes_over : Seen → List ℕ
nodes_over seen =
    over seen (word_at seen 27) ∷ over seen (word_at seen 28) ∷ over seen (word_at seen 29) ∷ []

-- The faces with the new one, and what stands beyond its sides.
unfoldable pub faces_made : Seen → Faces
faces_made seen =
    linked
    (linked
    (linked
    (with_face seen.faces (word_at seen 27 ∷ word_at seen 28 ∷ word_at seen 29 ∷ [])
    (nodes_over seen) (word_at seen 30))
    (next_side (inner_made seen)) (word_at seen 31))
    (previous_side (inner_made seen)) (word_at seen 32))
    (inner_made seen) seen.inner

-- Sides of the new face start at both children.
abbrev pub own_place : Seen → ℕ
own_place seen = length seen.nodes - (if is_left seen then 2 else 1)

abbrev pub other_place : Seen → ℕ
other_place seen = length seen.nodes - (if is_left seen then 1 else 2)

unfoldable pub starts_made : Seen → List ℕ
starts_made seen =
    slice_set (slice_set seen.starts (own_place seen) (inner_made seen)) (other_place seen)
    (next_side (inner_made seen))

-- After a root, after a base face, after the head of a record, and after a new face.
unfoldable pub root_ended : Seen → Seen
root_ended seen = record {
  spot = seen.spot;
  words = seen.words;
  nodes = seen.nodes ++ root_made seen ∷ [];
  faces = seen.faces;
  starts = seen.starts ++ 0 ∷ [];
  ring = seen.ring;
  inner = seen.inner;
  grid = seen.grid;
}

unfoldable pub base_ended : Seen → Seen
base_ended seen = record {
  spot = seen.spot;
  words = seen.words;
  nodes = seen.nodes;
  faces = with_face seen.faces (word_at seen 12 ∷ word_at seen 13 ∷ word_at seen 14 ∷ [])
      (0 ∷ 0 ∷ 0 ∷ []) (word_at seen 15);
  starts = seen.starts;
  ring = seen.ring;
  inner = seen.inner;
  grid = seen.grid;
}

-- After the node that a record splits.
unfoldable pub split_ended : Seen → Seen
split_ended seen = record {
  spot = seen.spot;
  words = seen.words;
  nodes = seen.nodes;
  faces = seen.faces;
  starts = seen.starts;
  ring = ring_of seen.faces (first_side seen.faces (get_or seen.starts (word_at seen 16) 0));
  inner = seen.inner;
  grid = seen.grid;
}

-- The grid after the children where both are leaves, and after the last leaf of them.
abbrev pub is_leaf : Node → Bool
is_leaf n = n.width == 1

unfoldable pub grid_paired : Seen → Grid
grid_paired seen =
    if is_leaf (first_child seen) && is_leaf (second_child seen)
    then with_pair seen.grid (first_child seen) (second_child seen) (word_at seen 21)
    (word_at seen 25)
    else seen.grid

unfoldable pub grid_made : Seen → Grid
grid_made seen =
    if is_leaf (second_child seen)
    then with_leaf (grid_paired seen) (second_child seen) (word_at seen 25)
    else if is_leaf (first_child seen)
    then with_leaf (grid_paired seen) (first_child seen) (word_at seen 21)
    else grid_paired seen

-- The faces at the split node are shared between its children.
unfoldable pub faces_shared : Seen → Faces
faces_shared seen =
    shared seen.faces (end_of (first_child seen)) (capped (length seen.nodes))
    (capped (length seen.nodes + 1)) seen.ring

unfoldable pub head_ended : Seen → Seen
head_ended seen = record {
  spot = seen.spot;
  words = seen.words;
  nodes = seen.nodes ++ first_child seen ∷ second_child seen ∷ [];
  faces = faces_shared seen;
  starts = seen.starts ++ 0 ∷ 0 ∷ [];
  ring = seen.ring;
  inner = 0;
  grid = grid_made seen;
}

unfoldable pub face_ended : Seen → Seen
face_ended seen = record {
  spot = seen.spot;
  words = seen.words;
  nodes = seen.nodes;
  faces = faces_made seen;
  starts = starts_made seen;
  ring = seen.ring;
  inner = inner_made seen;
  grid = seen.grid;
}

-- After a word that is this field.
unfoldable pub unit_ended : ℕ → Seen → Seen
unit_ended field seen =
    if field == 11 then root_ended seen else
    if field == 15 then base_ended seen else
    if field == 16 then split_ended seen else
    if field == 26 then head_ended seen else
    if field == 32 then face_ended seen else seen

-- After one more word.
abbrev pub word_kept : Seen → ℕ → Seen
word_kept seen word = record {
  spot = spot_after seen.spot word;
  words = slice_set seen.words seen.spot.field word;
  nodes = seen.nodes;
  faces = seen.faces;
  starts = seen.starts;
  ring = seen.ring;
  inner = seen.inner;
  grid = seen.grid;
}

unfoldable pub seen_after : Seen → ℕ → Seen
seen_after seen word = unit_ended seen.spot.field (word_kept seen word)
