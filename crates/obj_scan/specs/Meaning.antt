-- What any text in the syntax of Wavefront OBJ spells: points and triangles, or its first line with
-- a fault. A line that ends in a backslash is continued by the next one.
use Rattle.std.specs.Prelude.{ℕ, ◌+◌, ◌-◌, ◌≤◌, List, [], ◌∷◌, ◌++◌, nat_lt, ◌==◌, length, take}
use Rattle.std.specs.Prelude.{None, Some, Option, Result, Ok, Err, if◌then◌else◌}
use Rattle.std.specs.List.{All}
use Rattle.pm_base.specs.declared.limits.TheConstants.{MOST_FACES, MOST_VERTICES}
use Rattle.pm_ears.specs.Recutting.{IsPolygonWithin}
use Rattle.obj_lines.specs.declared.limits.TheConstants.{MOST_LINE_BYTES}
use Rattle.obj_lines.specs.Text.{until, lines, is_continued}
use Rattle.obj_lines.specs.Rules.{is_past, is_long, place}
use Rattle.obj_read.specs.declared.fault.ObjFault.TheVariants as line_faults
use Rattle.obj_prepare.specs.Named.{AreVerticesBelow}
use Rattle.obj_scan.specs.declared.fault.ScanFault.{ScanFault}
use Rattle.obj_scan.specs.declared.fault.ScanFault.TheVariants as faults
use Rattle.obj_scan.specs.Forms.{line_content, form_fault}
use Rattle.obj_scan.specs.Refusals.{Refused}
use Rattle.obj_scan.specs.Judged.{Scanned, Found, scanned_line, with_scanned}
use Rattle.obj_scan.specs.Passing.{none_passed}
use Rattle.pm_io.specs.Letters.{line_feed, space}

-- What the lines before gave: how many bytes they have, the number of the next line, how many of
-- them it continues and what these say, and the points and triangles so far.
pub record ScannedSoFar : Type 0 where
  pub bytes : ℕ
  pub number : ℕ
  pub continued : ℕ
  pub begun : List ℕ
  pub scanned : Scanned

-- What stands here of the line and of those that it continues.
unfoldable pub joined_text : ScannedSoFar → List ℕ → List ℕ
joined_text s line = s.begun ++ line_content s.number (until line_feed line)

-- The first line of those that go together.
abbrev pub first_number : ScannedSoFar → ℕ
first_number s = s.number - s.continued

-- After one line more that is continued: the backslash stands for a blank.
unfoldable pub and_continued : ScannedSoFar → List ℕ → ScannedSoFar
and_continued s line = record {
  bytes = s.bytes + length line;
  number = s.number + 1;
  continued = s.continued + 1;
  begun = take (length (joined_text s line) - 1) (joined_text s line) ++ space ∷ [];
  scanned = s.scanned;
}

-- After one line more that gives this.
unfoldable pub and_scanned_line : ScannedSoFar → List ℕ → Found → ScannedSoFar
and_scanned_line s line f = record {
  bytes = s.bytes + length line;
  number = s.number + 1;
  continued = 0;
  begun = [];
  scanned = with_scanned s.scanned (first_number s) f;
}

-- The first of two reasons to refuse a line: what is wrong with its form, and the other.
abbrev pub or_refused : Option ScanFault → ScannedSoFar → List ℕ → Option Refused → Option Refused
or_refused (Some fault) s line other = Some
    (record { fault = fault; line = s.number; place = place s.bytes line })
or_refused None s line other = other

-- A line has too many bytes before it or in it, something is wrong with its form, or it has too
-- many bytes with those
-- that it continues.
unfoldable pub judged_length : ScannedSoFar → List ℕ → Option Refused
judged_length s line =
    if is_past s.bytes (length line) then Some
    (record {
      fault = faults.Line line_faults.TooMany;
      line = s.number;
      place = place s.bytes line;
    })
    else if is_long line then Some
    (record {
      fault = faults.Line line_faults.LineTooLong;
      line = s.number;
      place = place s.bytes line;
    })
    else or_refused (form_fault s.number (until line_feed line)) s line
    (if nat_lt MOST_LINE_BYTES (length (joined_text s line)) then Some
    (record {
      fault = faults.Line line_faults.LineTooLong;
      line = first_number s;
      place = place s.bytes line;
    }) else None)

abbrev pub then_found : Result Found ScanFault → ScannedSoFar → List ℕ
    → Result ScannedSoFar ScanFault
then_found (Ok f) s line = Ok (and_scanned_line s line f)
then_found (Err e) s line = Err e

-- A line judged after those before it: what they give together, or the first fault.
unfoldable pub line_judged : ScannedSoFar → List ℕ → Result ScannedSoFar ScanFault
line_judged s line =
    if is_continued (line_content s.number (until line_feed line)) then Ok (and_continued s line)
    else then_found
    (scanned_line (length s.scanned.points) (length s.scanned.faces) (joined_text s line)) s
    line

-- The first line with a fault ends the reading.
abbrev pub then_scanned_lines : Option Refused → Result ScannedSoFar ScanFault → ScannedSoFar
    → List ℕ → (ScannedSoFar → Result Scanned Refused) → Result Scanned Refused
then_scanned_lines (Some r) next s line more = Err r
then_scanned_lines None (Ok t) s line more = more t
then_scanned_lines None (Err e) s line more = Err
    (record { fault = e; line = first_number s; place = place s.bytes line })

-- At the end no line waits for the next one.
abbrev pub at_end : ScannedSoFar → Result Scanned Refused
at_end s = if s.continued == 0 then Ok s.scanned else Err
    (record { fault = faults.Line line_faults.Continuation; line = first_number s; place = None })

abbrev pub scan_meaning_from : ScannedSoFar → List (List ℕ) → Result Scanned Refused
scan_meaning_from s [] = at_end s
scan_meaning_from s (line ∷ more) =
    then_scanned_lines (judged_length s line) (line_judged s line) s line
    (λ t. scan_meaning_from t more)

-- Before the first line.
abbrev pub nothing_scanned : ScannedSoFar
nothing_scanned =
    record {
      bytes = 0;
      number = 1;
      continued = 0;
      begun = [];
      scanned = record {
        points = [];
        inexact = 0;
        faces = [];
        polygons = [];
        passed = none_passed;
      };
    }

-- The points and triangles of the bytes, or their first line with a fault.
unfoldable pub scan_meaning_of : List ℕ → Result Scanned Refused
scan_meaning_of bytes = scan_meaning_from nothing_scanned (lines bytes)

-- What a text without a fault gives is within the limits.
pub record IsWithinLimits (s : Scanned) : Type 0 where
  pub points : length s.points ≤ MOST_VERTICES
  pub inexact : s.inexact ≤ length s.points
  pub faces : length s.faces ≤ MOST_FACES
  pub corners : All (AreVerticesBelow (length s.points)) s.faces
  pub polygons : All (IsPolygonWithin (length s.faces)) s.polygons
  pub polygons_few : length s.polygons ≤ length s.faces
