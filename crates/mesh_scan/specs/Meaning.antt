-- What a file of any format gives, as an OBJ text gives it: points and triangles, or its first
-- fault.
use Rattle.std.specs.Prelude.{ℕ, ◌+◌, List, [], nat_lt, length, max, min, Option, Some, None}
use Rattle.std.specs.Prelude.{Result, Ok, Err, if◌then◌else◌}
use Rattle.obj_lines.specs.declared.limits.TheConstants.{MOST_TEXT_BYTES}
use Rattle.obj_scan.specs.declared.passed.PassedOver.{PassedOver}
use Rattle.obj_scan.specs.Judged.{Scanned}
use Rattle.obj_scan.specs.Meaning.{scan_meaning_of}
use Rattle.obj_scan.specs.Passing.{none_passed}
use Rattle.obj_scan.specs.Refusals.{Refused as TextRefused}
use Rattle.stl_read.specs.declared.fault.Refused.{Refused as StlRefused}
use Rattle.stl_read.specs.Stl.{is_text, stl_meaning_of}
use Rattle.stl_read.specs.Vertices.{Triangles as StlTriangles}
use Rattle.ply_read.specs.declared.fault.Refused.{Refused as PlyRefused}
use Rattle.ply_read.specs.declared.fault.Spot.{Spot}
use Rattle.ply_read.specs.declared.fault.Spot.TheVariants as spots
use Rattle.ply_read.specs.Ply.{ply_meaning_of, Triangles as PlyTriangles}
use Rattle.mesh_scan.specs.declared.fault.MeshFault.{MeshFault}
use Rattle.mesh_scan.specs.declared.fault.MeshFault.TheVariants as faults
use Rattle.mesh_scan.specs.declared.format.TheConstants.{FIRST_BYTES}
use Rattle.mesh_scan.specs.declared.format.Format.{Format}
use Rattle.mesh_scan.specs.declared.format.Format.TheVariants as formats
use Rattle.mesh_scan.specs.Formats.{format_of}

-- What is wrong with a file, and the number from 1 of the byte that shows it, unless that is the
-- end of input.
pub record Refused : Type 0 where
  pub fault : MeshFault
  pub place : Option ℕ

-- No line is refused before the bytes have come that tell the format.
abbrev pub not_before_format : Option ℕ → Option ℕ
not_before_format (Some place) = Some (max place FIRST_BYTES)
not_before_format None = None

abbrev pub of_obj : Result Scanned TextRefused → Result Scanned Refused
of_obj (Ok s) = Ok s
of_obj (Err r) =
    Err (record { fault = faults.Obj r.fault r.line; place = not_before_format r.place })

-- What is passed over of an STL file: the normal of each facet, and attributes that aren't 0.
abbrev pub stl_passed : StlTriangles → PassedOver
stl_passed t = record none_passed { normals = length t.faces; attributes = t.attributes }

-- The points and triangles of an STL file, as those of an OBJ text.
abbrev pub stl_scanned : StlTriangles → Scanned
stl_scanned t = record {
  points = t.points;
  inexact = 0;
  faces = t.faces;
  polygons = [];
  passed = stl_passed t;
}

abbrev pub stl_spot : List ℕ → ℕ → Spot
stl_spot bytes place = if is_text bytes then spots.Line place else spots.Byte place

abbrev pub of_stl : List ℕ → Result StlTriangles StlRefused → Result Scanned Refused
of_stl bytes (Ok t) = Ok (stl_scanned t)
of_stl bytes (Err r) =
    Err (record { fault = faults.Stl r.fault (stl_spot bytes r.place); place = None })

-- What is passed over of a PLY file. Faces of fewer than three corners are lines and points.
abbrev pub ply_passed : PlyTriangles → PassedOver
ply_passed t = record none_passed {
  colours = t.losses.colours;
  textures = min (t.losses.textures + t.losses.face_textures) 4294967295;
  normals = t.losses.normals;
  elements = t.short_faces;
  properties = t.losses.properties;
  other_elements = t.losses.elements;
}

-- The points and triangles of a PLY file.
abbrev pub ply_scanned : PlyTriangles → Scanned
ply_scanned t = record {
  points = t.points;
  inexact = 0;
  faces = t.faces;
  polygons = t.polygons;
  passed = ply_passed t;
}

abbrev pub of_ply : Result PlyTriangles PlyRefused → Result Scanned Refused
of_ply (Ok t) = Ok (ply_scanned t)
of_ply (Err r) = Err (record { fault = faults.Ply r.fault r.spot; place = None })

-- A file that is read whole, unless it is too long.
abbrev pub if_short : List ℕ → Result Scanned Refused → Result Scanned Refused
if_short bytes r =
    if nat_lt MOST_TEXT_BYTES (length bytes) then
    Err (record { fault = faults.TooLong; place = Some (MOST_TEXT_BYTES + 1) })
    else r

-- What the bytes give as a file of this format. A kind that isn't read is shown by the first bytes.
abbrev pub meaning_as : Format → List ℕ → Result Scanned Refused
meaning_as formats.Obj bytes = of_obj (scan_meaning_of bytes)
meaning_as formats.Stl bytes = if_short bytes (of_stl bytes (stl_meaning_of bytes))
meaning_as formats.Ply bytes = if_short bytes (of_ply (ply_meaning_of bytes))
meaning_as (formats.Foreign kind) bytes =
    Err (record { fault = faults.Foreign kind; place = Some FIRST_BYTES })

-- The points and triangles of the bytes, or what is wrong with them.
unfoldable pub mesh_meaning_of : List ℕ → Result Scanned Refused
mesh_meaning_of bytes = meaning_as (format_of bytes) bytes
