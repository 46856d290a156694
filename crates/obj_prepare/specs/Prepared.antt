-- What becomes of placed vertices and triangles: vertices at one place are joined; triangles go
-- that became edges, and those whose corners an earlier one has; of those that stay some are turned
-- round, so that neighbours agree, each patch the better way; the surface is cut along singular
-- sides, and each vertex split into its fans.
use Rattle.std.specs.Prelude.{◌≡◌, ℕ, ◌-◌, ◌<◌, Bool, not, ◌==◌, ◌&&◌, List, map, length}
use Rattle.std.specs.Prelude.{slice_index_or}
use Rattle.std.specs.List.{filter}
use Rattle.pm_base.specs.declared.limits.TheConstants.{MOST_VERTICES}
use Rattle.pm_base.specs.declared.mesh.Corners.{Corners}
use Rattle.pm_base.specs.Place.{Place}
use Rattle.pm_base.specs.Meshes.{Mesh}
use Rattle.pm_base.specs.Sides.{net_of}
use Rattle.pm_base.specs.Counts.{count}
use Rattle.pm_fans.specs.Kept.{is_flat, kept_of}
use Rattle.pm_fans.specs.Orders.{IsSplitMesh}
use Rattle.pm_fans.specs.Cuts.{cut_count}
use Rattle.pm_turn.specs.Turning.{turned_by}
use Rattle.pm_turn.specs.Choice.{AreChosenTurns}
use Rattle.pm_turn.specs.Told.{AreTurnCounts}
use Rattle.obj_prepare.specs.declared.notes.Notes.{Notes}
use Rattle.obj_prepare.specs.Named.{is_some_corner}
use Rattle.obj_prepare.specs.Joining.{place_in_list, AreJoined, joined_faces}

-- The faces that stay.
abbrev pub staying : List ℕ → List Corners → List Corners
staying names faces = kept_of (joined_faces names faces)

pub record IsPrepared (places : List Place) (faces : List Corners) (m : Mesh) : Type 0 where
  pub names : List ℕ
  pub joined : AreJoined places faces names
  -- which of the faces that stay are turned round
  pub flags : List Bool
  pub turns : AreChosenTurns (net_of (staying names faces)) places flags
  -- the joined vertex of each vertex of m, where it stands
  pub old : List ℕ
  pub split : IsSplitMesh (net_of (turned_by flags (staying names faces))) m.faces old
  pub stand : m.points ≡ map (place_in_list places) old

-- How many vertices that a face names are joined to an earlier one.
unfoldable pub joined_count : List ℕ → List Corners → ℕ
joined_count names faces =
    count (λ v. is_some_corner faces v && not (slice_index_or names v 0 == v)) (length names)

-- How many faces became edges, and how many have the corners of an earlier one.
unfoldable pub flat_count : List ℕ → List Corners → ℕ
flat_count names faces = length (filter is_flat (joined_faces names faces))

unfoldable pub double_count : List ℕ → List Corners → ℕ
double_count names faces = length faces - flat_count names faces - length (staying names faces)

-- How many vertices no face names.
unfoldable pub unnamed_count : ℕ → List Corners → ℕ
unnamed_count vertices faces = count (λ v. not (is_some_corner faces v)) vertices

-- How many vertices that stand for themselves had faces of which none stays.
unfoldable pub gone_count : List ℕ → List Corners → ℕ
gone_count names faces = count (λ v. is_some_corner faces v && (slice_index_or names v 0 == v)
    && not (is_some_corner (staying names faces) v)) (length names)

-- How many more vertices there are than the faces that stay had.
unfoldable pub split_count : List ℕ → List Corners → List ℕ → ℕ
split_count names faces old =
    length old - count (is_some_corner (staying names faces)) (length names)

-- What was done, in numbers.
pub record AreNotes (places : List Place) (faces : List Corners) (names : List ℕ)
    (flags : List Bool) (old : List ℕ) (notes : Notes) : Type 0 where
  pub joined : notes.joined ≡ joined_count names faces
  pub flat : notes.flat ≡ flat_count names faces
  pub double : notes.double ≡ double_count names faces
  pub turns : AreTurnCounts (net_of (staying names faces)) places flags notes.turns
  pub cut : notes.cut ≡ cut_count (net_of (turned_by flags (staying names faces)))
  pub split : notes.split ≡ split_count names faces old
  pub unnamed : notes.unnamed ≡ unnamed_count (length places) faces
  pub gone : notes.gone ≡ gone_count names faces

-- The mesh and the numbers of what was done.
abbrev pub IsPreparedWith : List Place → List Corners → Mesh → Notes → Type 0
IsPreparedWith places faces m notes =
    (p : IsPrepared places faces m) × AreNotes places faces p.names p.flags p.old notes

-- More vertices come out than a mesh may have.
pub record HasTooMany (places : List Place) (faces : List Corners) : Type 0 where
  pub mesh : Mesh
  pub prepared : IsPrepared places faces mesh
  pub many : MOST_VERTICES < length mesh.points
