-- What comes of a file.
use Rattle.std.specs.Prelude.{◌≡◌, ℕ, ◌-◌, ◌*◌, ◌<◌, ◌==◌, nat_le, List, length, Option, Some, None}
use Rattle.std.specs.Prelude.{Result, Ok, Err, if◌then◌else◌}
use Rattle.pm_base.specs.declared.mesh.Corners.{Corners}
use Rattle.pm_base.specs.Place.{Place}
use Rattle.pm_base.specs.Meshes.{Mesh, IsWellFormed}
use Rattle.pm_base.specs.Sides.{net_of}
use Rattle.pm_base.specs.Fans.{IsOrientedManifold}
use Rattle.pm_ears.specs.Recutting.{recut, overlapping_count}
use Rattle.obj_scan.specs.Judged.{Scanned}
use Rattle.mesh_scan.specs.Meaning.{Refused, mesh_meaning_of}
use Rattle.obj_prepare.specs.declared.notes.Notes.{Notes}
use Rattle.obj_prepare.specs.declared.placing.Fit.{Fit}
use Rattle.obj_prepare.specs.declared.placing.Fit.TheVariants as fits
use Rattle.obj_prepare.specs.declared.longest.LongestAxis.{LongestAxis}
use Rattle.obj_prepare.specs.Longest.{longest_axis}
use Rattle.obj_prepare.specs.Named.{of_three}
use Rattle.obj_prepare.specs.Different.{rounded_count}
use Rattle.obj_prepare.specs.Placing.{fit_of, prepared_places_of}
use Rattle.obj_prepare.specs.Prepared.{IsPrepared, IsPreparedWith, HasTooMany}
use Rattle.obj_fit.specs.declared.counts.Counts.{Counts}
use Rattle.obj_fit.specs.declared.fault.Fault.{Fault}
use Rattle.obj_fit.specs.declared.fault.Fault.TheVariants as faults
use Rattle.obj_fit.specs.declared.rounded.RoundedFaces.{RoundedFaces}
use Rattle.obj_fit.specs.Fine.{rounded_faces}
use Rattle.obj_fit.specs.Thin.{thin_count}
use Rattle.obj_fit.specs.Texts.{output_text, notes_text}

-- The text that is written, and the one that is said beside it.
pub record Done : Type 0 where
  pub text : List ℕ
  pub notes : List ℕ

-- How the points are brought onto the grid that triangles of three different vertices name, and
-- all places. Faces that name
-- a vertex twice count for nothing.
abbrev pub fit_in : Option ℕ → Scanned → Fit
fit_in size s = fit_of size s.points (of_three s.faces)

abbrev pub places_in : Option ℕ → Scanned → List Place
places_in size s = prepared_places_of size s.points (of_three s.faces)

-- The triangles once polygons are cut anew over these places, and how many polygons keep a fan that
-- overlaps.
abbrev pub cut_in : Option ℕ → Scanned → List Corners
cut_in size s = recut (places_in size s) s.polygons s.faces

abbrev pub overlapping_in : Option ℕ → Scanned → ℕ
overlapping_in size s = overlapping_count (places_in size s) s.polygons s.faces

-- How many vertices and triangles there were, and came out; how many polygons were cut, and how
-- many of them overlap; how many vertices were rounded as they were read, and how much was passed
-- over; how many of these triangles name a vertex twice, and what rounding did to the others; and
-- how many faces came out without area.
abbrev pub counts_of : Scanned → List Corners → ℕ → RoundedFaces → Mesh → Counts
counts_of s cut overlapping rounded m = record {
  vertices_in = length s.points;
  vertices_out = length m.points;
  triangles_in = length s.faces;
  triangles_out = length m.faces;
  polygons = length s.polygons;
  overlapping = overlapping;
  inexact = s.inexact;
  rounded = rounded;
  passed = s.passed;
  twice = length cut - length (of_three cut);
  thin = thin_count m.points m.faces;
}

-- The longest axis of the box, where points are scaled by it and a tenth of the triangles or more
-- became edges.
abbrev pub warning_for : Fit → List Place → List Corners → ℕ → Option LongestAxis
warning_for fits.Standing points triangles edges = None
warning_for (fits.Scaled size b) points triangles edges = if nat_le (length triangles)
    (10 * edges) then Some (longest_axis b points triangles) else None

abbrev pub warning_in : Option ℕ → Scanned → Notes → Option LongestAxis
warning_in size s notes = warning_for (fit_in size s) s.points (of_three s.faces) notes.flat

-- How many vertices were joined by rounding, where so many were joined.
abbrev pub rounded_for : List Place → List Place → List Corners → ℕ → ℕ
rounded_for points places triangles joined = if joined == 0 then 0
    else rounded_count points places triangles

abbrev pub rounded_in : Option ℕ → Scanned → Notes → ℕ
rounded_in size s notes =
    rounded_for s.points (places_in size s) (of_three (cut_in size s)) notes.joined

-- What rounding to the grid did to triangles.
abbrev pub rounded_faces_in : Option ℕ → Scanned → RoundedFaces
rounded_faces_in size s =
    rounded_faces (fit_in size s) s.points (places_in size s) (of_three (cut_in size s))

abbrev pub counts_in : Option ℕ → Scanned → Mesh → Counts
counts_in size s m =
    counts_of s (cut_in size s) (overlapping_in size s) (rounded_faces_in size s) m

-- What is done with the points and triangles of a text: points are brought onto the grid, polygons
-- are cut anew, triangles become an oriented manifold of these points, and the texts tell of that.
pub record MakesPrepared (size : Option ℕ) (s : Scanned) (done : Done) : Type 0 where
  pub mesh : Mesh
  pub notes : Notes
  pub prepared : IsPreparedWith (places_in size s) (of_three (cut_in size s)) mesh notes
  pub formed : IsWellFormed mesh
  pub manifold : IsOrientedManifold (net_of mesh.faces)
  pub some : 0 < length mesh.faces
  pub text_is : done.text ≡ output_text (fit_in size s) mesh
  pub notes_are : done.notes ≡ notes_text (counts_in size s mesh) notes (rounded_in size s notes)
      (fit_in size s) (warning_in size s notes)

-- No face comes out.
pub record LeavesNoFace (places : List Place) (faces : List Corners) : Type 0 where
  pub mesh : Mesh
  pub prepared : IsPrepared places faces mesh
  pub none : length mesh.faces ≡ 0

-- The file has a fault, or more vertices come of it than a mesh may have, or no face, or a mesh is
-- made of it; and how many bytes decide that, where it isn't the end of the file.
pub data IsPreparedText (size : Option ℕ) (bytes : List ℕ) : Result Done Fault → Option ℕ
    → Type 0 where
  bad_file : (r : Refused) → mesh_meaning_of bytes ≡ Err r
      → IsPreparedText size bytes (Err (faults.File r.fault)) r.place
  too_many : (s : Scanned) → mesh_meaning_of bytes ≡ Ok s
      → HasTooMany (places_in size s) (of_three (cut_in size s))
      → IsPreparedText size bytes (Err faults.TooMany) None
  no_face : (s : Scanned) → mesh_meaning_of bytes ≡ Ok s
      → LeavesNoFace (places_in size s) (of_three (cut_in size s))
      → IsPreparedText size bytes (Err faults.NoFaces) None
  made : (s : Scanned) (done : Done) → mesh_meaning_of bytes ≡ Ok s → MakesPrepared size s done
      → IsPreparedText size bytes (Ok done) None
