-- The laws of outcomes, each as a statement.
use Rattle.std.specs.Prelude.{◌≡◌, ℕ, ◌+◌, ◌-◌, ◌<◌, ◌≤◌, ℤ, pos, true, List, ◌∷◌, ◌++◌, length}
use Rattle.std.specs.Prelude.{drop, codes, Option, None, Result, Ok}
use Rattle.pm_base.specs.Place.{Place}
use Rattle.pm_base.specs.Meshes.{Mesh, IsWellFormed}
use Rattle.pm_base.specs.Sides.{net_of}
use Rattle.pm_base.specs.Fans.{IsOrientedManifold}
use Rattle.pm_base.specs.Canonical.{canonical_text}
use Rattle.obj_lines.specs.Text.{until}
use Rattle.pm_fans.specs.Splits.{AllStand}
use Rattle.pm_ears.specs.Recutting.{recut}
use Rattle.pm_turn.specs.Told.{AreInsideOut}
use Rattle.obj_read.specs.Coordinates.{is_negative, without_sign, decimals, is_number, are_zeros}
use Rattle.obj_read.specs.Coordinates.{magnitude, with_sign}
use Rattle.obj_read.specs.Meaning.{meaning_of}
use Rattle.obj_scan.specs.Judged.{Scanned}
use Rattle.obj_scan.specs.Meaning.{scan_meaning_of}
use Rattle.obj_scan.specs.Laws.{IsFormed, scanned_mesh, passed_in}
use Rattle.mesh_scan.specs.declared.format.Format.TheVariants as formats
use Rattle.mesh_scan.specs.Formats.{format_of}
use Rattle.mesh_scan.specs.Meaning.{mesh_meaning_of}
use Rattle.obj_prepare.specs.declared.notes.Notes.{Notes}
use Rattle.obj_prepare.specs.declared.placing.Fit.TheVariants as fits
use Rattle.obj_prepare.specs.Named.{is_some_corner, of_three}
use Rattle.obj_prepare.specs.Placing.{IsSize}
use Rattle.obj_prepare.specs.Joining.{place_in_list}
use Rattle.obj_prepare.specs.Became.{AllBecame}
use Rattle.obj_prepare.specs.Back.{WayBack, LeadsNear, StandsAt}
use Rattle.obj_prepare.specs.Prepared.{IsPreparedWith}
use Rattle.obj_prepare.specs.Laws.{AreFit}
use Rattle.obj_fit.specs.declared.fault.Fault.{Fault}
use Rattle.obj_fit.specs.Thin.{thin_count}
use Rattle.obj_fit.specs.Texts.{output_text, polygon_notes, inexact_note, rounded_notes}
use Rattle.obj_fit.specs.Texts.{passed_notes, inward_note, thin_note, notes_text, last_note}
use Rattle.obj_fit.specs.Outcome.{Done, MakesPrepared, IsPreparedText, cut_in, overlapping_in}
use Rattle.obj_fit.specs.Outcome.{fit_in, places_in, counts_in, rounded_faces_in}
use Rattle.pm_io.specs.Letters.{line_feed, carriage_return, hash_sign}

-- A text has one outcome, and one place that decides it.
abbrev pub OnePreparedText : Type 0
OnePreparedText = (size : Option ℕ) (bytes : List ℕ) (one other : Result Done Fault)
    (place there : Option ℕ) → IsPreparedText size bytes one place
    → IsPreparedText size bytes other there → (one ≡ other) × (place ≡ there)

-- A comment and the canonical text of an oriented manifold, read without decimals as that mesh.
pub record IsFitText (text : List ℕ) : Type 0 where
  pub mesh : Mesh
  pub line : List ℕ
  pub line_is : until line_feed line ≡ line
  pub plain : until carriage_return line ≡ line
  pub text_is : text ≡ (hash_sign ∷ line) ++ line_feed ∷ canonical_text 0 mesh
  pub formed : IsWellFormed mesh
  pub manifold : IsOrientedManifold (net_of mesh.faces)
  pub read : meaning_of 0 text ≡ Ok mesh

-- What is written is such a text.
abbrev pub TextsAreRead : Type 0
TextsAreRead = (size : Option ℕ) (bytes : List ℕ) (done : Done) (place : Option ℕ) → IsSize size
    → IsPreparedText size bytes (Ok done) place → IsFitText done.text

-- A numeral, and the number that it spells in units of 10 to the power -digits. It has no more
-- decimals but for zeros.
pub record Spells (digits : ℕ) (text : List ℕ) (n : ℤ) : Type 0 where
  pub form : is_number (without_sign text) ≡ true
  pub zeros : are_zeros (drop digits (decimals (without_sign text))) ≡ true
  pub worth : with_sign (is_negative text) (magnitude digits (without_sign text)) ≡ n

-- The line `# coordinate = E / D * place + (X Y Z)` spells these numbers.
pub record TellsWayBack (line : List ℕ) (way : WayBack) : Type 0 where
  pub extent : List ℕ
  pub steps : List ℕ
  pub x : List ℕ
  pub y : List ℕ
  pub z : List ℕ
  pub line_is : line ≡ codes "# coordinate = " ++ extent ++ codes " / " ++ steps
      ++ codes " * place + (" ++ (x ++ codes " " ++ y ++ codes " " ++ z) ++ codes ")\n"
  pub extent_is : Spells 18 extent (pos way.extent)
  pub steps_are : Spells 0 steps (pos way.steps)
  pub x_is : Spells 19 x way.middle.x
  pub y_is : Spells 19 y way.middle.y
  pub z_is : Spells 19 z way.middle.z

-- A first line of a text, and a place on the grid, lead back to this point in units of 10^-18.
pub data LineLeadsBack (line : List ℕ) (place p : Place) : Type 0 where
  as_it_stood : line ≡ codes "# coordinates as they stood\n" → StandsAt place p
      → LineLeadsBack line place p
  near : (way : WayBack) → TellsWayBack line way → LeadsNear way place p
      → LineLeadsBack line place p

-- The text is a first line and the canonical text of a mesh. The line leads back from the place of
-- each vertex that a triangle of three different vertices names to the point that was read, and
-- each vertex of the mesh stands at the place of one of them. Each triangle, once polygons were cut
-- anew, came out over the places of its corners, or is gone for a reason that is told; and no other
-- came out.
pub record TextLeadsBack (s : Scanned) (places : List Place) (text : List ℕ)
    (m : Mesh) : Type 0 where
  pub line : List ℕ
  pub text_is : text ≡ line ++ canonical_text 0 m
  pub back : (v : ℕ) → v < length s.points → is_some_corner (of_three s.faces) v ≡ true
      → LineLeadsBack line (place_in_list places v) (place_in_list s.points v)
  pub from : (w : ℕ) → w < length m.points
      → (v : ℕ) × (v < length s.points) × (is_some_corner (of_three s.faces) v ≡ true)
      × (place_in_list m.points w ≡ place_in_list places v)
  pub triangles : AllBecame places (of_three (recut places s.polygons s.faces)) m

-- What is written, where it has faces, leads back to the points of the text.
abbrev pub TextsLeadBack : Type 0
TextsLeadBack = (size : Option ℕ) (bytes : List ℕ) (s : Scanned) (done : Done) (place : Option ℕ)
    (m : Mesh) → IsSize size → mesh_meaning_of bytes ≡ Ok s
    → IsPreparedText size bytes (Ok done) place → meaning_of 0 done.text ≡ Ok m → 0 < length m.faces
    → TextLeadsBack s (places_in size s) done.text m

-- Each triangle of a text names a vertex twice, became an edge, has the corners of an earlier one,
-- or came out. Each vertex
-- has no face of three vertices, was joined to an earlier one, has lost its faces, or came out; so
-- many were split off.
pub record IsAccounted (size : Option ℕ) (s : Scanned) (m : Mesh)
    (notes : Notes) : Type 0 where
  pub triangles : (counts_in size s m).twice + notes.flat + notes.double + length m.faces
      ≡ length s.faces
  pub split_few : notes.split ≤ length m.points
  pub vertices : notes.unnamed + notes.joined + notes.gone + (length m.points - notes.split)
      ≡ length s.points

-- So the numbers that are said of a mesh account for each vertex and triangle of its text.
abbrev pub TextsAreAccounted : Type 0
TextsAreAccounted = (size : Option ℕ) (bytes : List ℕ) (s : Scanned) (done : Done)
    → mesh_meaning_of bytes ≡ Ok s → (k : MakesPrepared size s done)
    → IsAccounted size s k.mesh k.notes

-- The text of a mesh, prepared without a size, comes back after a comment. Vertices that were split
-- off stand at one place, so they are joined, and as many are split off again, maybe along sides
-- that are cut open. Nothing else is done: no face is turned again, and none was joined by
-- rounding.
pub record ComesBack (text : List ℕ) (m : Mesh) : Type 0 where
  pub notes : Notes
  pub told : IsPreparedWith m.points m.faces m notes
  pub split : notes.split ≡ notes.joined
  pub flat : notes.flat ≡ 0
  pub double : notes.double ≡ 0
  pub turned : notes.turns.turned ≡ 0
  pub unnamed : notes.unnamed ≡ 0
  pub outcome : IsPreparedText None text
      (Ok (record {
        text = output_text fits.Standing m;
        notes = notes_text (counts_in None (scanned_mesh m) m) notes 0 fits.Standing None;
      })) None

-- What is written comes back so, whatever the size was.
abbrev pub TextsComeBack : Type 0
TextsComeBack = (size : Option ℕ) (bytes : List ℕ) (done : Done) (place : Option ℕ) (m : Mesh)
    → IsSize size → IsPreparedText size bytes (Ok done) place → meaning_of 0 done.text ≡ Ok m
    → ComesBack done.text m

-- The OBJ text of an oriented manifold with faces whose vertices are used and stand apart comes
-- back with nothing said of it but what was passed over, closed surfaces that look inward and
-- faces without area, where its lines are well formed.
abbrev pub FitTextsStay : Type 0
FitTextsStay = (bytes : List ℕ) (m : Mesh) → format_of bytes ≡ formats.Obj → IsFormed bytes
    → meaning_of 0 bytes ≡ Ok m → 0 < length m.faces → IsOrientedManifold (net_of m.faces)
    → AreFit m.points m.faces
    → (inside_out : ℕ) × AreInsideOut (net_of m.faces) m.points inside_out
    × IsPreparedText None bytes
    (Ok (record {
      text = output_text fits.Standing m;
      notes = passed_notes (passed_in (scan_meaning_of bytes))
          ++ inward_note inside_out
          ++ thin_note (thin_count m.points m.faces)
          ++ last_note fits.Standing;
    })) None

-- A text that needs nothing once polygons were cut anew: it has triangles, each of which has three
-- different corners, the triangles are an oriented manifold, each point is used, and no two come to
-- stand at one place of the grid.
pub record NeedsNothing (size : Option ℕ) (s : Scanned) : Type 0 where
  pub some : 0 < length (cut_in size s)
  pub stand : AllStand (net_of (cut_in size s))
  pub manifold : IsOrientedManifold (net_of (cut_in size s))
  pub fit : AreFit (places_in size s) (cut_in size s)

-- The output and the notes of these triangles over the places of these points: polygons that were
-- cut, those that overlap, vertices that were rounded as they were read, triangles that rounding to
-- the grid made flat or turned over, what was passed over, closed surfaces that look inward, faces
-- without area, and how places lead back.
abbrev pub as_it_is : Option ℕ → Scanned → ℕ → Done
as_it_is size s inside_out = record {
  text = output_text (fit_in size s) (record { points = places_in size s; faces = cut_in size s });
  notes = polygon_notes (length s.polygons) (overlapping_in size s)
      ++ inexact_note s.inexact
      ++ rounded_notes (rounded_faces_in size s)
      ++ passed_notes s.passed
      ++ inward_note inside_out
      ++ thin_note (thin_count (places_in size s) (cut_in size s))
      ++ last_note (fit_in size s);
}

-- A text that needs nothing comes back as it is, for each size and for none.
abbrev pub FitScansStay : Type 0
FitScansStay = (size : Option ℕ) (bytes : List ℕ) (s : Scanned)
    → mesh_meaning_of bytes ≡ Ok s → NeedsNothing size s
    → (inside_out : ℕ) × AreInsideOut (net_of (cut_in size s)) (places_in size s) inside_out
    × IsPreparedText size bytes (Ok (as_it_is size s inside_out)) None
