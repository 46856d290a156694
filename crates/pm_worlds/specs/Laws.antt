-- The laws of worlds, each as a statement.
use Rattle.std.specs.Prelude.{ℕ, Bool, List, map}
use Rattle.std.specs.List.{All, AllZip}
use Rattle.pm_base.specs.Fans.{IsOrientedManifold}
use Rattle.pm_seams.specs.Joined.{HaveSameBorder}
use Rattle.pm_worlds.specs.Cuts.{Piece, tile_of, cut_mesh, AreCut}
use Rattle.pm_worlds.specs.Names.{IsPieceAtCorners, HasSameCorners}
use Rattle.pm_worlds.specs.Parts.{Part, IsPart, IsTileOfPart, whole_mesh, ShowWholeAlways}
use Rattle.pm_worlds.specs.Worlds.{Tile, IsWorld, leaf_world, shown_world, AreClosed}

-- Where the leaf meshes of a world are together an oriented manifold, so is what its tiles show,
-- whichever closed set each of them shows.
abbrev pub WorldsAreSurfaces : Type 0
WorldsAreSurfaces =
    (ts : List Tile) → IsWorld ts → IsOrientedManifold (leaf_world ts) →
    (T : ℕ → ℕ → Bool) → AreClosed ts T → IsOrientedManifold (shown_world ts T)

-- And it has the border of the leaf meshes: no crack comes between tiles.
abbrev pub WorldsKeepBorders : Type 0
WorldsKeepBorders =
    (ts : List Tile) → IsWorld ts → IsOrientedManifold (leaf_world ts) →
    (T : ℕ → ℕ → Bool) → AreClosed ts T → HaveSameBorder (leaf_world ts) (shown_world ts T)

-- Both hold from any choice of closed sets to any other.
abbrev pub WorldsStaySurfaces : Type 0
WorldsStaySurfaces =
    (ts : List Tile) → IsWorld ts → (S T : ℕ → ℕ → Bool) → AreClosed ts S → AreClosed ts T →
    IsOrientedManifold (shown_world ts S) →
    IsOrientedManifold (shown_world ts T) × HaveSameBorder (shown_world ts S) (shown_world ts T)

-- The hierarchies of a cut mesh show an oriented manifold together, if the mesh that was cut is
-- one, whichever closed set each of them shows,
abbrev pub CutMeshesAreShown : Type 0
CutMeshesAreShown =
    (ps : List Piece) → AreCut ps → IsOrientedManifold (cut_mesh ps) →
    let ts = map tile_of ps in
    (T : ℕ → ℕ → Bool) → AreClosed ts T → IsOrientedManifold (shown_world ts T)

-- with the border of the mesh that was cut.
abbrev pub CutMeshesKeepBorders : Type 0
CutMeshesKeepBorders =
    (ps : List Piece) → AreCut ps → IsOrientedManifold (cut_mesh ps) →
    let ts = map tile_of ps in
    (T : ℕ → ℕ → Bool) → AreClosed ts T → HaveSameBorder (cut_mesh ps) (shown_world ts T)

-- For any runs that leave the borders of their pieces alone the other nodes can be named. So only
-- the vertices of the cut mesh have to be told.
abbrev pub NodesCanBeNamed : Type 0
NodesCanBeNamed =
    (most : ℕ) (ps : List Piece) → All (IsPieceAtCorners most) ps →
    (qs : List Piece) × AreCut qs × AllZip HasSameCorners ps qs ×
    (IsOrientedManifold (cut_mesh ps) → IsOrientedManifold (cut_mesh qs))

-- Where meshes that were simplified apart are an oriented manifold together, the nodes of their
-- hierarchies can be named so that the tiles always show such a one, with the border of the whole,
-- and each corner of a mesh keeps its number and its place.
abbrev pub PartsShowTheWhole : Type 0
PartsShowTheWhole =
    (most : ℕ) (ps : List Part) → All (IsPart most) ps → IsOrientedManifold (whole_mesh ps) →
    (ts : List Tile) × AllZip IsTileOfPart ps ts × ShowWholeAlways (whole_mesh ps) ts
