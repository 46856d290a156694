-- Tiles of a mesh that was cut: what `simplify --keep-border` made of the texts of its pieces, and
-- what the frames of all tiles show together, whatever scripts do with them.
use Rattle.std.specs.Prelude.{◌≡◌, ℕ, suc, ◌<◌, ◌+ℤ◌, Bool, List, [], ◌∷◌, Option}
use Rattle.std.specs.List.{All, AllZip}
use Rattle.pm_base.specs.Place.{Place}
use Rattle.pm_base.specs.Meshes.{Mesh}
use Rattle.pm_base.specs.Sides.{Net, net_of}
use Rattle.pm_base.specs.Fans.{IsUsed, IsOrientedManifold}
use Rattle.pm_forest.specs.Forest.{Hierarchy}
use Rattle.pm_forest.specs.Places.{place_of_node}
use Rattle.pm_session.specs.declared.grammar.Grammar.{Grammar}
use Rattle.pm_session.specs.Script.{at_first}
use Rattle.pm_session.specs.Serving.{played}
use Rattle.pm_seams.specs.Joined.{together, no_faces, renamed, IsOneToOneOn}
use Rattle.pm_tiles.specs.Borders.{place_in}
use Rattle.pm_worlds.specs.Worlds as worlds
use Rattle.pm_worlds.specs.Parts.{IsTileOf, ShowWhole, ShowWholeAlways}
use Rattle.pm_commands.specs.Borders.{FramesShowBorder}

-- A tile: an OBJ text, what was asked for, what the sink had taken before and after `simplify` made
-- a stream of it with its border kept, and where the mesh lies in the whole: which vertex of the
-- whole each vertex of the mesh is, and how far its places have to be moved.
pub record Tile : Type 0 where
  pub text : List ℕ
  pub target : ℕ
  pub digits : ℕ
  pub old : Option (List ℕ)
  pub new : Option (List ℕ)
  pub made : FramesShowBorder target digits text old new
  pub vertex : ℕ → ℕ
  pub offset : Place

-- The mesh that the text spells, and the hierarchy of the stream that was made of it.
abbrev pub mesh_in : Tile → Mesh
mesh_in t = t.made.m

abbrev pub hierarchy_in : Tile → Hierarchy
hierarchy_in t = t.made.shown.h

-- A place moved.
abbrev pub moved : Place → Place → Place
moved by p = record { x = by.x +ℤ p.x; y = by.y +ℤ p.y; z = by.z +ℤ p.z }

-- Different corners of the tile's mesh are different vertices of the whole, with numbers below
-- `most`, and each stands where the whole has it.
pub record LiesIn (at : ℕ → Place) (most : ℕ) (t : Tile) : Type 0 where
  pub distinct : IsOneToOneOn t.vertex (net_of (mesh_in t).faces)
  pub below : (v : ℕ) → IsUsed (net_of (mesh_in t).faces) v → t.vertex v < most
  pub stands : (v : ℕ) → IsUsed (net_of (mesh_in t).faces) v →
      moved t.offset (place_in (mesh_in t) v) ≡ at (t.vertex v)

-- The mesh that was cut: the faces of all pieces, with the whole's vertices.
abbrev pub whole_of : List Tile → Net
whole_of [] = no_faces
whole_of (t ∷ ts) = together (renamed t.vertex (net_of (mesh_in t).faces)) (whole_of ts)

-- Some lines of a script, in some grammar and with some budget, lead to these split records.
pub record IsPlayedOn (h : Hierarchy) (T : ℕ → Bool) : Type 0 where
  pub grammar : Grammar
  pub budget : ℕ
  pub lines : List ℕ
  pub split : T ≡ (played h grammar (at_first budget) lines).state.split

-- So it is with each tile: T i are the records that are split in tile i.
abbrev pub ArePlayed : List Tile → (ℕ → ℕ → Bool) → Type 0
ArePlayed [] T = Unit {0}
ArePlayed (t ∷ ts) T = IsPlayedOn (hierarchy_in t) (T 0) × ArePlayed ts (λ i. T (suc i))

-- The tile shows the hierarchy of the stream; each corner of its mesh is a node, with the corner's
-- number in the whole, and stands, once it is moved, where the whole has it.
pub record IsShownBy (at : ℕ → Place) (t : Tile) (w : worlds.Tile) : Type 0 where
  pub is : IsTileOf (mesh_in t) (hierarchy_in t) t.vertex w
  pub stands : (v : ℕ) (used : IsUsed (net_of (mesh_in t).faces) v) →
      moved t.offset (place_of_node w.hierarchy (is.corners v used).node) ≡ at (t.vertex v)

-- Where the pieces of an oriented manifold were simplified with their borders kept, their nodes
-- have numbers in the whole, those of corners as in the whole and at its places, so that the
-- frames show an oriented manifold together with exactly the border of the whole: after whatever
-- lines of scripts, and for whatever closed sets.
abbrev pub TilesShowTheWhole : Type 0
TilesShowTheWhole =
    (at : ℕ → Place) (most : ℕ) (ts : List Tile) → All (LiesIn at most) ts →
    IsOrientedManifold (whole_of ts) →
    (ws : List worlds.Tile) × AllZip (IsShownBy at) ts ws × ShowWholeAlways (whole_of ts) ws ×
    ((T : ℕ → ℕ → Bool) → ArePlayed ts T → ShowWhole (whole_of ts) ws T)
