-- The rules by which the lines of a text are scanned.
use Rattle.std.specs.Prelude.{ℕ, ◌+◌, ◌-◌, ◌<◌, ◌≤◌, List, [], ◌∷◌, ◌++◌, ◌==◌, nat_lt, length}
use Rattle.std.specs.Prelude.{take, Option, Some, None, Result, Ok, Err, if◌then◌else◌}
use Rattle.obj_lines.specs.declared.limits.TheConstants.{MOST_LINE_BYTES}
use Rattle.obj_lines.specs.declared.fault.LineFault.{LineFault}
use Rattle.obj_lines.specs.Text.{is_continued}
use Rattle.obj_lines.specs.Rules.{Rules}
use Rattle.obj_read.specs.declared.fault.ObjFault.TheVariants as faults
use Rattle.obj_scan.specs.declared.fault.ScanFault.{ScanFault}
use Rattle.obj_scan.specs.declared.fault.ScanFault.TheVariants as scan_faults
use Rattle.obj_scan.specs.declared.scanner.Scanner.{Scanner}
use Rattle.obj_scan.specs.Forms.{line_content, form_fault}
use Rattle.obj_scan.specs.Judged.{Scanned, Found, scanned_line, with_scanned}
use Rattle.obj_scan.specs.Meaning.{IsWithinLimits}
use Rattle.obj_scan.specs.Passing.{none_passed, passed_count}
use Rattle.obj_scan.specs.Fails.{scanned_of}
use Rattle.pm_io.specs.Letters.{space}

-- What is held between two lines: how many lines the next one continues, what these say, and what
-- all lines gave.
pub record HeldLines : Type 0 where
  pub continued : ℕ
  pub begun : List ℕ
  pub scanned : Scanned

abbrev pub held_of : Scanner → HeldLines
held_of s = record { continued = s.continued; begun = s.begun.items; scanned = scanned_of s.scan }

-- Before the first line.
abbrev pub nothing_held : HeldLines
nothing_held =
    record {
      continued = 0;
      begun = [];
      scanned = record {
        points = [];
        inexact = 0;
        faces = [];
        polygons = [];
        passed = none_passed;
      };
    }

-- With what a line gives that has this number, or its fault.
abbrev pub given : Scanned → ℕ → Result Found ScanFault → Result Scanned (LineFault ScanFault)
given s line (Ok f) = Ok (with_scanned s line f)
given s line (Err e) = Err (record { fault = e; line = line })

-- With what a text gives.
unfoldable pub scanned_after : Scanned → ℕ → List ℕ → Result Scanned (LineFault ScanFault)
scanned_after s line text = given s line (scanned_line (length s.points) (length s.faces) text)

-- No line waits for the next one.
abbrev pub ended : Result Scanned (LineFault ScanFault) → Result HeldLines (LineFault ScanFault)
ended (Ok s) = Ok (record { continued = 0; begun = []; scanned = s })
ended (Err e) = Err e

-- One line more, of which this is read. The first of those that go together has this number, by
-- which a fault is named.
unfoldable pub taken : ℕ → HeldLines → List ℕ → Result HeldLines (LineFault ScanFault)
taken line h text =
    if nat_lt MOST_LINE_BYTES (length (h.begun ++ text)) then Err
    (record { fault = scan_faults.Line faults.LineTooLong; line = line })
    else if is_continued text then
    Ok (record {
      continued = h.continued + 1;
      begun =
          take (length (h.begun ++ text) - 1) (h.begun ++ text) ++ space ∷ [];
      scanned = h.scanned;
    })
    else ended (scanned_after h.scanned line (h.begun ++ text))

-- A line whose form is right gives what is read of it.
abbrev pub if_formed : Option ScanFault → ℕ → Result HeldLines (LineFault ScanFault)
    → Result HeldLines (LineFault ScanFault)
if_formed (Some fault) number taken = Err (record { fault = fault; line = number })
if_formed None number taken = taken

-- The line with this number, which stands here without its LF: what is held after it, or its first
-- fault.
unfoldable pub line_taken : ℕ → HeldLines → List ℕ → Result HeldLines (LineFault ScanFault)
line_taken number h text = if_formed (form_fault number text) number
    (taken (number - h.continued) h (line_content number text))

-- What the lines before this one gave is within the limits. No line has two things that are passed
-- over.
pub record IsScanning (line : ℕ) (s : Scanned) : Type 0 where
  pub within : IsWithinLimits s
  pub passed : passed_count s.passed < line

-- The line with this number may come.
pub record IsReadyToScan (h : HeldLines) (number : ℕ) : Type 0 where
  pub continued : h.continued < number
  pub scanned : IsScanning (number - h.continued) h.scanned

-- At the end no line waits for the next one.
abbrev pub end_fault : ℕ → HeldLines → Option (LineFault ScanFault)
end_fault number h =
    if h.continued == 0 then None
    else Some (record {
      fault = scan_faults.Line faults.Continuation;
      line = number - h.continued;
    })

abbrev pub scan_rules : Rules HeldLines ScanFault
scan_rules = record {
  take = line_taken;
  end = end_fault;
  too_many = scan_faults.Line faults.TooMany;
  too_long = scan_faults.Line faults.LineTooLong;
}
