-- The laws of meshes that are put together, each as a statement.
use Rattle.std.specs.Prelude.{◌≡◌, ℕ, List, ◌++◌}
use Rattle.pm_base.specs.declared.mesh.Corners.{Corners}
use Rattle.pm_base.specs.Sides.{Net, net_of}
use Rattle.pm_base.specs.Fans.{IsOrientedManifold}
use Rattle.pm_seams.specs.Joined.{together, renamed, IsOneToOneOn, HaveSameBorder, MayStandFor}
use Rattle.pm_seams.specs.Joined.{MeetsOnBorder}

-- Lists of faces are put together by one list after the other.
abbrev pub ListsArePutTogether : Type 0
ListsArePutTogether = (fs gs : List Corners) → net_of (fs ++ gs) ≡ together (net_of fs) (net_of gs)

-- The order doesn't matter to an oriented manifold,
abbrev pub OrderIsFree : Type 0
OrderIsFree =
    (a b : Net) → IsOrientedManifold (together a b) → IsOrientedManifold (together b a)

-- nor do the names of its vertices.
abbrev pub RenamedMeshesAreSurfaces : Type 0
RenamedMeshesAreSurfaces =
    (name : ℕ → ℕ) (m : Net) → IsOneToOneOn name m → IsOrientedManifold m →
    IsOrientedManifold (renamed name m)

-- Where two meshes are an oriented manifold together, what both use is on the border of the first.
abbrev pub SharedVerticesAreOnBorders : Type 0
SharedVerticesAreOnBorders = (a b : Net) → IsOrientedManifold (together a b) → MeetsOnBorder a b

-- Where a mesh and a rest make an oriented manifold, so do the rest and any manifold that may stand
-- for the mesh, if it shares vertices of its border alone with the rest.
abbrev pub GluedMeshesAreSurfaces : Type 0
GluedMeshesAreSurfaces =
    (a b rest : Net) → MayStandFor a b → MeetsOnBorder b rest → IsOrientedManifold b →
    IsOrientedManifold (together a rest) → IsOrientedManifold (together b rest)

-- And the border stays: no side of it is gone, and no crack has come.
abbrev pub GluedMeshesKeepBorders : Type 0
GluedMeshesKeepBorders =
    (a b rest : Net) → MayStandFor a b → MeetsOnBorder b rest → IsOrientedManifold b →
    IsOrientedManifold (together a rest) → HaveSameBorder (together a rest) (together b rest)
