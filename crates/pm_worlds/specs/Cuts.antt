-- Meshes cut in pieces. A run from each piece leaves the piece's border alone, and its hierarchy is
-- a tile.
use Rattle.std.specs.Prelude.{◌≡◌, ℕ, ◌<◌, List, [], ◌∷◌}
use Rattle.std.specs.List.{All, AllPairs}
use Rattle.pm_base.specs.Meshes.{Mesh}
use Rattle.pm_base.specs.Sides.{Net, net_of}
use Rattle.pm_base.specs.Fans.{IsUsed}
use Rattle.pm_base.specs.declared.log.Collapse.{Collapse}
use Rattle.pm_forest.specs.Forest.{Hierarchy, node_count}
use Rattle.pm_forest.specs.Rules.{HasShape}
use Rattle.pm_runs.specs.Runs.{IsStartOfRun, IsRun}
use Rattle.pm_number.specs.Stages.{run_of}
use Rattle.pm_number.specs.Numbering.{node_number, hierarchy_of_run}
use Rattle.pm_seams.specs.Joined.{together, no_faces, renamed}
use Rattle.pm_tiles.specs.RunLaws.{SparesBorder}
use Rattle.pm_worlds.specs.Worlds.{Tile}

-- A mesh, the log of a run from it, and which vertex of the world each node of the run's hierarchy
-- is.
pub record Piece : Type 0 where
  pub mesh : Mesh
  pub log : List Collapse
  pub vertex : ℕ → ℕ

abbrev pub hierarchy_in : Piece → Hierarchy
hierarchy_in p = hierarchy_of_run p.mesh p.log

abbrev pub tile_of : Piece → Tile
tile_of p = record { hierarchy = hierarchy_in p; vertex = p.vertex }

-- The node of vertex v of the piece's mesh.
abbrev pub node_in : Piece → ℕ → ℕ
node_in p v = node_number (run_of p.mesh p.log) v

-- The mesh of a piece with the world's vertices, and the meshes of all pieces together: the mesh
-- that was cut.
abbrev pub piece_mesh : Piece → Net
piece_mesh p = renamed (λ v. p.vertex (node_in p v)) (net_of p.mesh.faces)

abbrev pub cut_mesh : List Piece → Net
cut_mesh [] = no_faces
cut_mesh (p ∷ ps) = together (piece_mesh p) (cut_mesh ps)

-- The log is that of a run that takes no vertex of the border, its hierarchy has the right shape,
-- and the nodes are different vertices.
pub record IsPiece (p : Piece) : Type 0 where
  pub start : IsStartOfRun p.mesh
  pub run : IsRun p.mesh p.log
  pub spares : SparesBorder p.mesh p.log
  pub shape : HasShape (hierarchy_in p)
  pub distinct :
      (v w : ℕ) → v < node_count (hierarchy_in p) → w < node_count (hierarchy_in p) →
      p.vertex v ≡ p.vertex w → v ≡ w

-- The node is that of a vertex that a face of the piece's mesh uses.
pub record IsCornerNode (p : Piece) (v : ℕ) : Type 0 where
  pub corner : ℕ
  pub used : IsUsed (net_of p.mesh.faces) corner
  pub node : node_in p corner ≡ v

-- Nodes of two pieces are one vertex only where both are those of vertices of the cut mesh.
abbrev pub ShareCorners : Piece → Piece → Type 0
ShareCorners p q =
    (v w : ℕ) → v < node_count (hierarchy_in p) → w < node_count (hierarchy_in q) →
    p.vertex v ≡ q.vertex w → IsCornerNode p v × IsCornerNode q w

-- Each is a piece, and they share no other vertices than those of the cut mesh.
pub record AreCut (ps : List Piece) : Type 0 where
  pub pieces : All IsPiece ps
  pub share : AllPairs ShareCorners ps
