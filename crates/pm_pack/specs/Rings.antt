-- What is known of faces, and the ring of sides round a node. A side goes by the number of words
-- that name it: 3 f + k + 1 is the side of face f from its corner k on, and 0 is none.
use Rattle.std.specs.Prelude.{ℕ, zero, suc, ◌+◌, ◌-◌, ◌*◌, ◌/◌, ◌%◌, ◌==◌, ◌||◌, nat_lt}
use Rattle.std.specs.Prelude.{if◌then◌else◌, List, [], ◌∷◌, ◌++◌, get_or, slice_set}
use Rattle.pm_pack.specs.declared.ring.Spoke.{Spoke}

-- By side the corner that it starts at, the number of the node over that, and the side beyond it,
-- and by face its input word.
pub record Faces : Type 0 where
  pub corners : List ℕ
  pub nodes : List ℕ
  pub beyond : List ℕ
  pub inputs : List ℕ

abbrev pub no_faces : Faces
no_faces = record { corners = []; nodes = []; beyond = []; inputs = [] }

-- The side after this one in its face, and the one before.
abbrev pub next_side : ℕ → ℕ
next_side side = (side - 1) / 3 * 3 + side % 3 + 1

abbrev pub previous_side : ℕ → ℕ
previous_side side = (side - 1) / 3 * 3 + (side % 3 + 1) % 3 + 1

-- The number of a side, 0 where there is none.
abbrev pub at_side : List ℕ → ℕ → ℕ
at_side numbers side = if side == 0 then 0 else get_or numbers (side - 1) 0

-- The numbers with this one at a side, where there is such a side.
abbrev pub set_side : List ℕ → ℕ → ℕ → List ℕ
set_side numbers side n = if side == 0 then numbers else slice_set numbers (side - 1) n

-- The input word of a side's face.
abbrev pub input_at : Faces → ℕ → ℕ
input_at f side = if side == 0 then 0 else get_or f.inputs ((side - 1) / 3) 0

-- Two sides stand beyond each other.
unfoldable pub linked : Faces → ℕ → ℕ → Faces
linked f side other = record {
  corners = f.corners;
  nodes = f.nodes;
  beyond = set_side (set_side f.beyond side other) other side;
  inputs = f.inputs;
}

-- One more face, with nothing beyond its sides.
unfoldable pub with_face : Faces → List ℕ → List ℕ → ℕ → Faces
with_face f corners nodes input = record {
  corners = f.corners ++ corners;
  nodes = f.nodes ++ nodes;
  beyond = f.beyond ++ 0 ∷ 0 ∷ 0 ∷ [];
  inputs = f.inputs ++ input ∷ [];
}

-- A side that starts at a node, with the corner there, and the node that it leads to.
abbrev pub spoke : ℕ → ℕ → ℕ → Spoke
spoke side leaf node = record { side = side; leaf = leaf; node = node }

unfoldable pub spoke_at : Faces → ℕ → Spoke
spoke_at f side = spoke side (at_side f.corners side) (at_side f.nodes (next_side side))

-- The next side round the node, none where it is that from which the ring began.
unfoldable pub turned : Faces → ℕ → ℕ → ℕ
turned f start side =
    if at_side f.beyond (previous_side side) == start then 0
    else at_side f.beyond (previous_side side)

-- The side before one round the node, none where it is at the border.
abbrev pub side_before : Faces → ℕ → ℕ
side_before f side =
    if at_side f.beyond side == 0 then 0 else next_side (at_side f.beyond side)

-- Back round the node so many sides at most, up to the border, or to the one after the first.
unfoldable pub back_from : ℕ → Faces → ℕ → ℕ → ℕ
back_from zero f start side = side
back_from (suc most) f start side =
    if side_before f side == 0 || side_before f side == start then side
    else back_from most f start (side_before f side)

-- The side from which a ring begins, by one of its sides.
abbrev pub first_side : Faces → ℕ → ℕ
first_side f start = back_from 12 f start start

-- The sides round a node from this one on, so many at most.
unfoldable pub ring_from : ℕ → Faces → ℕ → ℕ → List Spoke
ring_from zero f start side = []
ring_from (suc most) f start side =
    if side == 0 then [] else spoke_at f side ∷ ring_from most f start (turned f start side)

-- The sides round the node at which this one starts, twelve at most.
abbrev pub ring_of : Faces → ℕ → List Spoke
ring_of f start = ring_from 12 f start start

-- A side starts at this node.
abbrev pub owned : Faces → ℕ → ℕ → Faces
owned f side node = record {
  corners = f.corners;
  nodes = set_side f.nodes side node;
  beyond = f.beyond;
  inputs = f.inputs;
}

-- The one of two nodes under which a leaf is: the first, where the leaf is before this one.
abbrev pub owner : ℕ → ℕ → ℕ → ℕ → ℕ
owner leaf end t u = if nat_lt leaf end then t else u

-- The sides of a ring start at t where their corners are before this leaf, and else at u.
unfoldable pub shared : Faces → ℕ → ℕ → ℕ → List Spoke → Faces
shared f end t u [] = f
shared f end t u (s ∷ ring) =
    shared (owned f s.side (owner s.leaf end t u)) end t u ring
