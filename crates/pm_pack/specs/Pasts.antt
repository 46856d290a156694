-- What was seen of a text, and the nodes and the edge that it speaks of.
use Rattle.std.specs.Prelude.{ℕ, ◌+◌, ◌-◌, ◌==◌, ◌&&◌, ◌||◌, not, nat_lt, nat_le, Bool}
use Rattle.std.specs.Prelude.{if◌then◌else◌, List, [], ◌∷◌, length, get_or}
use Rattle.pm_pack.specs.declared.fields.Spot.{Spot}
use Rattle.pm_pack.specs.declared.grid.Grid.{Grid}
use Rattle.pm_pack.specs.declared.past.Node.{Node}
use Rattle.pm_pack.specs.declared.ring.Spoke.{Spoke}
use Rattle.pm_pack.specs.Grids.{capped}
use Rattle.pm_pack.specs.Planes.{node, node_at}
use Rattle.pm_pack.specs.Rings.{Faces, next_side, at_side}

-- Where the text is, by field the last word of that field, the nodes and the faces so far, by node
-- a side that starts at it, the sides round the node that the record splits, the side of the
-- record's left face on which its right face stands, and the grid of leaves.
pub record Seen : Type 0 where
  pub spot : Spot
  pub words : List ℕ
  pub nodes : List Node
  pub faces : Faces
  pub starts : List ℕ
  pub ring : List Spoke
  pub inner : ℕ
  pub grid : Grid

-- The last word that is this field.
abbrev pub word_at : Seen → ℕ → ℕ
word_at seen field = get_or seen.words field 0

-- The node that the record splits.
abbrev pub split_node : Seen → Node
split_node seen = node_at seen.nodes (word_at seen 16)

-- The leaf after those of a node.
abbrev pub end_of : Node → ℕ
end_of n = capped (n.first + n.width)

-- The nodes that a root and the head of a record make.
abbrev pub root_made : Seen → Node
root_made seen =
    node (word_at seen 7) (word_at seen 8) (word_at seen 9)
    (end_of (node_at seen.nodes (length seen.nodes - 1))) (word_at seen 10) (word_at seen 11)

abbrev pub first_child : Seen → Node
first_child seen =
    node (word_at seen 18) (word_at seen 19) (word_at seen 20) (split_node seen).first
    (word_at seen 17) (word_at seen 21)

abbrev pub second_child : Seen → Node
second_child seen =
    node (word_at seen 22) (word_at seen 23) (word_at seen 24) (end_of (first_child seen))
    ((split_node seen).width - word_at seen 17) (word_at seen 25)

-- A node has this leaf.
abbrev pub has_leaf : Node → ℕ → Bool
has_leaf n leaf = nat_le n.first leaf && nat_lt leaf (end_of n)

-- The new face is the record's left one.
abbrev pub is_left : Seen → Bool
is_left seen = not (word_at seen 26 == 2) && seen.inner == 0

-- The child under which the new face's inner side starts, and the other one.
abbrev pub own_child : Seen → Node
own_child seen = if is_left seen then first_child seen else second_child seen

abbrev pub other_child : Seen → Node
other_child seen = if is_left seen then second_child seen else first_child seen

-- The side beyond another.
abbrev pub beyond : Seen → ℕ → ℕ
beyond seen side = at_side seen.faces.beyond side

-- The corner at which a side starts.
abbrev pub corner_at : Seen → ℕ → ℕ
corner_at seen side = at_side seen.faces.corners side

-- A new face of these children stands on this side's edge: its face comes under the own child, and
-- that of the side beyond it, where there is one, under the other.
unfoldable pub is_parting : Faces → Node → Node → Spoke → Bool
is_parting f own other s =
    has_leaf own s.leaf
    && (at_side f.beyond s.side == 0
    || has_leaf other (at_side f.corners (next_side (at_side f.beyond s.side))))

-- The side of the first such edge of a ring, 0 where there is none.
unfoldable pub edge_in : Faces → Node → Node → List Spoke → ℕ
edge_in f own other [] = 0
edge_in f own other (s ∷ ring) =
    if is_parting f own other s then s.side else edge_in f own other ring

abbrev pub edge : Seen → ℕ
edge seen = edge_in seen.faces (own_child seen) (other_child seen) seen.ring
