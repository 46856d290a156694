-- Names for the nodes of pieces: only those of the cut mesh's vertices have to be told.
use Rattle.std.specs.Prelude.{◌≡◌, ℕ, ◌<◌}
use Rattle.pm_base.specs.Sides.{net_of}
use Rattle.pm_base.specs.Fans.{IsUsed}
use Rattle.pm_forest.specs.Rules.{HasShape}
use Rattle.pm_runs.specs.Runs.{IsStartOfRun, IsRun}
use Rattle.pm_seams.specs.Joined.{IsOneToOneOn}
use Rattle.pm_tiles.specs.RunLaws.{SparesBorder}
use Rattle.pm_worlds.specs.Cuts.{Piece, hierarchy_in, node_in}

-- A piece, as far as the corners of its mesh tell it: they are different vertices of the world,
-- with numbers below `most`. The names of other nodes are free.
pub record IsPieceAtCorners (most : ℕ) (p : Piece) : Type 0 where
  pub start : IsStartOfRun p.mesh
  pub run : IsRun p.mesh p.log
  pub spares : SparesBorder p.mesh p.log
  pub shape : HasShape (hierarchy_in p)
  pub distinct : IsOneToOneOn (λ v. p.vertex (node_in p v)) (net_of p.mesh.faces)
  pub below : (v : ℕ) → IsUsed (net_of p.mesh.faces) v → p.vertex (node_in p v) < most

-- The same mesh and the same run, with the same vertices of the world at the mesh's corners.
pub record HasSameCorners (p q : Piece) : Type 0 where
  pub mesh : q.mesh ≡ p.mesh
  pub log : q.log ≡ p.log
  pub corners :
      (v : ℕ) → IsUsed (net_of p.mesh.faces) v → q.vertex (node_in p v) ≡ p.vertex (node_in p v)
