-- What a failure says of the text, and of the source.
use Rattle.std.specs.Prelude.{ℕ, List, length, Option, IfSome}
use Rattle.pm_io.specs.Bytes.{Loses}
use Rattle.obj_scan.specs.declared.fault.ScanFail.{ScanFail}
use Rattle.obj_scan.specs.declared.fault.ScanFail.TheVariants as fails
use Rattle.obj_scan.specs.Refusals.{IsRefusal, FaultNotReached}
use Rattle.obj_scan.specs.declared.scan.Scan.{Scan}
use Rattle.obj_scan.specs.Judged.{Scanned}
use Rattle.obj_scan.specs.Meaning.{scan_meaning_of}

-- What is held in memory, without the room of its lists.
abbrev pub scanned_of : Scan → Scanned
scanned_of s =
    record {
      points = s.points.items;
      inexact = s.inexact;
      faces = s.faces.items;
      polygons = s.polygons.items;
      passed =
          s.passed;
    }

-- The bytes that were taken don't reach the place of the first fault, where the source tells its
-- bytes.
pub record ScanFailsBefore (whole left : Option (List ℕ)) : Type 0 where
  pub taken : List ℕ
  pub took : Loses whole left taken
  pub before : IfSome whole (λ bytes. FaultNotReached (length taken) (scan_meaning_of bytes))

-- What a failure says of the bytes that the source had, and of those that are left. Want of memory
-- says nothing.
abbrev pub ExplainsScan : ScanFail → Option (List ℕ) → Option (List ℕ) → Type 0
ExplainsScan (fails.Fault fault line) whole left =
    IfSome whole (λ bytes. IsRefusal fault line (scan_meaning_of bytes))
ExplainsScan fails.Read whole left = ScanFailsBefore whole left
ExplainsScan fails.OutOfMemory whole left = Unit {0}
