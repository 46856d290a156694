-- Worlds: tiles that share the vertices of their borders, and what they show together.
use Rattle.std.specs.Prelude.{◌≡◌, ℕ, suc, ◌<◌, Bool, List, [], ◌∷◌}
use Rattle.std.specs.List.{All, AllPairs}
use Rattle.pm_base.specs.Sides.{Net, IsBorder}
use Rattle.pm_forest.specs.Forest.{Hierarchy, node_count}
use Rattle.pm_forest.specs.Tables.{leaf_node_of}
use Rattle.pm_beyond.specs.Walks.{leaf_net}
use Rattle.pm_beyond.specs.Moves.{IsClosed}
use Rattle.pm_firm.specs.Firm.{shown_net, IsFirm}
use Rattle.pm_seams.specs.Joined.{together, no_faces, renamed}
use Rattle.pm_tiles.specs.Fixed.{root_over, HasFixedBorder}

-- A hierarchy, and which vertex of the world each of its nodes is.
pub record Tile : Type 0 where
  pub hierarchy : Hierarchy
  pub vertex : ℕ → ℕ

-- The node is the root of a leaf on the border of the leaf mesh.
pub record IsBorderNode (h : Hierarchy) (v : ℕ) : Type 0 where
  pub leaf : ℕ
  pub border : IsBorder (leaf_net h) leaf
  pub root : root_over h leaf ≡ v

-- The hierarchy is firm, its border is fixed, and its nodes are different vertices.
pub record IsTile (t : Tile) : Type 0 where
  pub firm : IsFirm t.hierarchy
  pub fixed : HasFixedBorder t.hierarchy
  pub distinct :
      (v w : ℕ) → v < node_count t.hierarchy → w < node_count t.hierarchy →
      t.vertex v ≡ t.vertex w → v ≡ w

-- Where nodes of two tiles are one vertex, both are on the borders of their tiles.
abbrev pub MeetOnBorders : Tile → Tile → Type 0
MeetOnBorders s t =
    (v w : ℕ) → v < node_count s.hierarchy → w < node_count t.hierarchy →
    s.vertex v ≡ t.vertex w → IsBorderNode s.hierarchy v × IsBorderNode t.hierarchy w

-- Each is a tile, and any two meet on their borders alone.
pub record IsWorld (ts : List Tile) : Type 0 where
  pub tiles : All IsTile ts
  pub meet : AllPairs MeetOnBorders ts

-- The leaf mesh of a tile, and the mesh that the tile shows where the records of T are split, each
-- with the world's vertices.
abbrev pub leaf_tile : Tile → Net
leaf_tile t = renamed (λ x. t.vertex (leaf_node_of t.hierarchy x)) (leaf_net t.hierarchy)

abbrev pub shown_tile : Tile → (ℕ → Bool) → Net
shown_tile t T = renamed t.vertex (shown_net t.hierarchy T)

-- All leaf meshes together, and what all tiles show together. T i are the records that are split
-- in tile i.
abbrev pub leaf_world : List Tile → Net
leaf_world [] = no_faces
leaf_world (t ∷ ts) = together (leaf_tile t) (leaf_world ts)

abbrev pub shown_world : List Tile → (ℕ → ℕ → Bool) → Net
shown_world [] T = no_faces
shown_world (t ∷ ts) T = together (shown_tile t (T 0)) (shown_world ts (λ i. T (suc i)))

-- In each tile the set is closed.
abbrev pub AreClosed : List Tile → (ℕ → ℕ → Bool) → Type 0
AreClosed [] T = Unit {0}
AreClosed (t ∷ ts) T = IsClosed t.hierarchy (T 0) × AreClosed ts (λ i. T (suc i))
