-- The laws of placing vertices, and of preparing placed vertices and triangles, each as a
-- statement.
use Rattle.std.specs.Prelude.{◌≡◌, ◌≢◌, ℕ, ◌+◌, ◌-◌, ◌<◌, ◌≤◌, true, List, length, Option}
use Rattle.std.specs.List.{All}
use Rattle.pm_base.specs.declared.mesh.Corners.{Corners}
use Rattle.pm_base.specs.Place.{Place}
use Rattle.pm_base.specs.Meshes.{Mesh}
use Rattle.pm_base.specs.Sides.{net_of}
use Rattle.pm_base.specs.Fans.{IsUsed, IsOrientedManifold}
use Rattle.pm_fans.specs.Splits.{AllStand}
use Rattle.obj_prepare.specs.declared.notes.Notes.{Notes}
use Rattle.obj_prepare.specs.Numbers.{nearest, IsNearest}
use Rattle.obj_prepare.specs.Named.{is_some_corner, AreVerticesBelow, IsWithinMesh}
use Rattle.obj_prepare.specs.Placing.{IsSize, fit_of, prepared_places_of}
use Rattle.obj_prepare.specs.Back.{LeadsBack, StandsWithin}
use Rattle.obj_prepare.specs.Joining.{place_in_list}
use Rattle.obj_prepare.specs.Prepared.{IsPrepared, IsPreparedWith}

-- The nearest whole number is what its name says.
abbrev pub NearestIsNearest : Type 0
NearestIsNearest = (n d : ℕ) → 0 < d → IsNearest n d (nearest n d)

-- The place of each vertex that a triangle names leads back to the point that was read.
abbrev pub PlacesLeadBack : Type 0
PlacesLeadBack = (size : Option ℕ) (points : List Place) (faces : List Corners) (v : ℕ)
    → IsSize size → v < length points → is_some_corner faces v ≡ true
    → LeadsBack (fit_of size points faces) (place_in_list (prepared_places_of size points faces) v)
    (place_in_list points v)

-- So it does to within half a step, rounded up to units.
abbrev pub PlacesAreWithin : Type 0
PlacesAreWithin = (size : Option ℕ) (points : List Place) (faces : List Corners) (v : ℕ)
    → IsSize size → v < length points → is_some_corner faces v ≡ true
    → StandsWithin (fit_of size points faces)
    (place_in_list (prepared_places_of size points faces) v) (place_in_list points v)

-- One mesh is prepared of placed vertices and triangles.
abbrev pub PreparedAreOne : Type 0
PreparedAreOne = (places : List Place) (faces : List Corners) (m n : Mesh)
    → IsPrepared places faces m → IsPrepared places faces n → m ≡ n

-- What was done is told by one list of numbers.
abbrev pub NotesAreOne : Type 0
NotesAreOne = (places : List Place) (faces : List Corners) (m n : Mesh) (notes others : Notes)
    → IsPreparedWith places faces m notes → IsPreparedWith places faces n others → notes ≡ others

-- Each triangle became an edge, has the corners of an earlier one, or came out. Each vertex has no
-- face, was joined to an
-- earlier one, has lost its faces, or came out; of what came out so many were split off.
pub record DoAccountsClose (vertices triangles : ℕ) (m : Mesh) (notes : Notes) : Type 0 where
  pub triangles_are : notes.flat + notes.double + length m.faces ≡ triangles
  pub split_few : notes.split ≤ length m.points
  pub vertices_are : notes.unnamed + notes.joined + notes.gone + (length m.points - notes.split)
      ≡ vertices

-- So the numbers of what was done account for each vertex and triangle.
abbrev pub AccountsClose : Type 0
AccountsClose = (places : List Place) (faces : List Corners) (m : Mesh) (notes : Notes)
    → All (AreVerticesBelow (length places)) faces → IsPreparedWith places faces m notes
    → DoAccountsClose (length places) (length faces) m notes

-- Each vertex is used, and no two stand at one place.
pub record AreFit (places : List Place) (faces : List Corners) : Type 0 where
  pub used : (v : ℕ) → v < length places → IsUsed (net_of faces) v
  pub apart : (v w : ℕ) → v < length places → w < length places → v ≢ w
      → place_in_list places v ≢ place_in_list places w

-- An oriented manifold of such vertices comes back as it is.
abbrev pub FitMeshesStay : Type 0
FitMeshesStay = (places : List Place) (faces : List Corners) → IsWithinMesh (length places) faces
    → AllStand (net_of faces) → IsOrientedManifold (net_of faces) → AreFit places faces
    → IsPrepared places faces (record { points = places; faces = faces })

-- What is made of placed vertices and triangles, prepared again, is itself.
abbrev pub PreparedStays : Type 0
PreparedStays = (places : List Place) (faces : List Corners) (m : Mesh)
    → All (AreVerticesBelow (length places)) faces → IsPrepared places faces m
    → IsPrepared m.points m.faces m
