-- The meaning of a text in the syntax of Wavefront OBJ: its mesh, or its first line with a fault.
use Rattle.std.specs.Prelude.{ℕ, ◌+◌, List, [], ◌∷◌, length, Result, Ok, Err}
use Rattle.std.specs.Prelude.{if◌then◌else◌}
use Rattle.pm_base.specs.Meshes.{Mesh}
use Rattle.obj_lines.specs.Text.{until, lines, content}
use Rattle.obj_lines.specs.Rules.{Refused as LineRefused, is_past, is_long, place}
use Rattle.obj_read.specs.declared.fault.ObjFault.{ObjFault}
use Rattle.obj_read.specs.declared.fault.ObjFault.TheVariants as faults
use Rattle.obj_read.specs.declared.found.Found.{Found}
use Rattle.obj_read.specs.Judged.{line_found}
use Rattle.obj_read.specs.Fits.{with_found}
use Rattle.pm_io.specs.Letters.{line_feed}

-- How many decimals a coordinate has, and what the lines before gave: how many bytes they have, the
-- number of the next line, and the mesh so far.
pub record SoFar : Type 0 where
  pub digits : ℕ
  pub bytes : ℕ
  pub number : ℕ
  pub mesh : Mesh

-- The first line with a fault, and its place.
abbrev pub Refused : Type 0
Refused = LineRefused ObjFault

-- A line judged alone, given how many decimals a coordinate has, and how many bytes, vertices and
-- faces stand before it.
unfoldable pub read_alone : SoFar → List ℕ → Result Found ObjFault
read_alone s line =
    if is_past s.bytes (length line) then Err faults.TooMany
    else if is_long line then Err faults.LineTooLong
    else
    line_found s.digits (length s.mesh.points) (length s.mesh.faces)
    (content (until line_feed line))

-- After one line more.
unfoldable pub and_line : SoFar → List ℕ → Found → SoFar
and_line s line f = record {
  digits = s.digits;
  bytes = s.bytes + length line;
  number = s.number + 1;
  mesh = with_found s.mesh f;
}

-- The first line with a fault ends the reading.
abbrev pub then_lines : Result Found ObjFault → SoFar → List ℕ → (SoFar → Result Mesh Refused)
    → Result Mesh Refused
then_lines (Ok f) s line more = more (and_line s line f)
then_lines (Err e) s line more = Err
    (record { fault = e; line = s.number; place = place s.bytes line })

abbrev pub meaning_from : SoFar → List (List ℕ) → Result Mesh Refused
meaning_from s [] = Ok s.mesh
meaning_from s (line ∷ more) = then_lines (read_alone s line) s line (λ t. meaning_from t more)

-- Before the first line.
abbrev pub nothing_yet : ℕ → SoFar
nothing_yet digits = record {
  digits = digits;
  bytes = 0;
  number = 1;
  mesh = record { points = []; faces = [] };
}

-- The mesh of the bytes with so many decimals a coordinate, or their first line with a fault.
unfoldable pub meaning_of : ℕ → List ℕ → Result Mesh Refused
meaning_of digits bytes = meaning_from (nothing_yet digits) (lines bytes)
