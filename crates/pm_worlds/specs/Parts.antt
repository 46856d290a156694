-- Meshes that were simplified apart, each told by its own vertices: together they are a whole, and
-- what their hierarchies show together is told by the whole's vertices and places.
use Rattle.std.specs.Prelude.{◌≡◌, ℕ, ◌<◌, Bool, List, [], ◌∷◌}
use Rattle.pm_base.specs.Meshes.{Mesh}
use Rattle.pm_base.specs.Sides.{Net, net_of}
use Rattle.pm_base.specs.Fans.{IsUsed, IsOrientedManifold}
use Rattle.pm_base.specs.declared.log.Collapse.{Collapse}
use Rattle.pm_forest.specs.Forest.{Hierarchy, node_count}
use Rattle.pm_forest.specs.Places.{place_of_node}
use Rattle.pm_forest.specs.Rules.{HasShape}
use Rattle.pm_runs.specs.Runs.{IsStartOfRun, IsRun}
use Rattle.pm_number.specs.Numbering.{hierarchy_of_run}
use Rattle.pm_seams.specs.Joined.{together, no_faces, renamed, IsOneToOneOn, HaveSameBorder}
use Rattle.pm_tiles.specs.Borders.{place_in}
use Rattle.pm_tiles.specs.RunLaws.{SparesBorder}
use Rattle.pm_worlds.specs.Worlds.{Tile, AreClosed, shown_world}

-- A mesh, the log of a run from it, and which vertex of the whole each vertex of the mesh is.
pub record Part : Type 0 where
  pub mesh : Mesh
  pub log : List Collapse
  pub vertex : ℕ → ℕ

abbrev pub hierarchy_of_part : Part → Hierarchy
hierarchy_of_part p = hierarchy_of_run p.mesh p.log

-- The mesh of a part with the whole's vertices, and all these meshes together: the whole.
abbrev pub part_mesh : Part → Net
part_mesh p = renamed p.vertex (net_of p.mesh.faces)

abbrev pub whole_mesh : List Part → Net
whole_mesh [] = no_faces
whole_mesh (p ∷ ps) = together (part_mesh p) (whole_mesh ps)

-- The log is that of a run that takes no vertex of the border, its hierarchy has the right shape,
-- and the vertices that faces use are different vertices of the whole, with numbers below `most`.
pub record IsPart (most : ℕ) (p : Part) : Type 0 where
  pub start : IsStartOfRun p.mesh
  pub run : IsRun p.mesh p.log
  pub spares : SparesBorder p.mesh p.log
  pub shape : HasShape (hierarchy_of_part p)
  pub distinct : IsOneToOneOn p.vertex (net_of p.mesh.faces)
  pub below : (v : ℕ) → IsUsed (net_of p.mesh.faces) v → p.vertex v < most

-- The node of the tile is vertex v of the mesh, which is this vertex of the whole: it has the same
-- number there, and stands where the mesh has v.
pub record IsNodeOf (t : Tile) (m : Mesh) (v number : ℕ) : Type 0 where
  pub node : ℕ
  pub there : node < node_count t.hierarchy
  pub named : t.vertex node ≡ number
  pub place : place_of_node t.hierarchy node ≡ place_in m v

-- The tile shows this hierarchy, its nodes are different vertices of the whole, and each vertex
-- that a face of the mesh uses is a node.
pub record IsTileOf (m : Mesh) (h : Hierarchy) (vertex : ℕ → ℕ) (t : Tile) : Type 0 where
  pub shows : t.hierarchy ≡ h
  pub distinct : (v w : ℕ) → v < node_count t.hierarchy → w < node_count t.hierarchy →
      t.vertex v ≡ t.vertex w → v ≡ w
  pub corners : (v : ℕ) → IsUsed (net_of m.faces) v → IsNodeOf t m v (vertex v)

abbrev pub IsTileOfPart : Part → Tile → Type 0
IsTileOfPart p t = IsTileOf p.mesh (hierarchy_of_part p) p.vertex t

-- The tiles show an oriented manifold together, with the border of the whole.
pub record ShowWhole (whole : Net) (ts : List Tile) (T : ℕ → ℕ → Bool) : Type 0 where
  pub surface : IsOrientedManifold (shown_world ts T)
  pub border : HaveSameBorder whole (shown_world ts T)

-- So it is whichever closed set each of them shows.
abbrev pub ShowWholeAlways : Net → List Tile → Type 0
ShowWholeAlways whole ts = (T : ℕ → ℕ → Bool) → AreClosed ts T → ShowWhole whole ts T
