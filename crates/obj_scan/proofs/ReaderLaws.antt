-- What a text means is what its lines give by the rules.
use Rattle.std.proofs.Common.{◌≡◌, ℕ, ◌-◌, ◌<◌, Bool, true, false, ◌==◌, List, [], ◌∷◌, ◌++◌}
use Rattle.std.proofs.Common.{length, nat_lt}
use Rattle.std.proofs.Common.{Option, Some, None, Result, Ok, Err, IfSome, refl, sym, ◌∙◌, ap}
use Rattle.std.proofs.Common.{arith}
use Rattle.std.proofs.lemmas.List.Elements.{All-nil}
use Rattle.pm_ears.specs.Recutting.{IsPolygonWithin}
use Rattle.obj_prepare.specs.Named.{AreVerticesBelow}
use Rattle.obj_lines.specs.declared.fault.LineFault.{LineFault}
use Rattle.obj_lines.specs.Text.{until, lines, is_continued}
use Rattle.obj_lines.specs.Rules.{SoFar, is_past, is_long, judged}
use Rattle.obj_lines.specs.Rules.{reading, text_read}
use Rattle.obj_lines.specs.Fails.{IsRefusal, FailsBefore}
use Rattle.obj_lines.proofs.ToldLaws.{told, told_ok, told_fault, told_before}
use Rattle.obj_scan.specs.declared.fault.ScanFault.{ScanFault}
use Rattle.obj_scan.specs.Forms.{line_content, form_fault}
use Rattle.obj_scan.specs.Judged.{Scanned, Found, scanned_line}
use Rattle.obj_scan.specs.Meaning.{ScannedSoFar, joined_text, and_continued, and_scanned_line}
use Rattle.obj_scan.specs.Meaning.{judged_length, line_judged, scan_meaning_from, nothing_scanned}
use Rattle.obj_scan.specs.Meaning.{scan_meaning_of}
use Rattle.obj_scan.specs.Reading.{HeldLines, nothing_held, scanned_after, taken, line_taken}
use Rattle.obj_scan.specs.Reading.{scan_rules, IsReadyToScan}
use Rattle.obj_scan.specs.Fails.{ScanFailsBefore}
use Rattle.obj_scan.specs.Passing.{none_passed, passed_count}

abbrev so_far : ScannedSoFar → SoFar HeldLines
so_far s = record {
  bytes = s.bytes;
  number = s.number;
  held = record { continued = s.continued; begun = s.begun; scanned = s.scanned };
}

abbrev lines_scanned : HeldLines → Scanned
lines_scanned h = h.scanned

-- What follows from a line by the rules is what its meaning says, as the lines after it are.
line_same : (s : ScannedSoFar) (line : List ℕ) (more : List (List ℕ)) (past long joined ends : Bool)
    (form : Option ScanFault) (found : Result Found ScanFault)
    → is_past s.bytes (length line) ≡ past → is_long line ≡ long
    → form_fault s.number (until 10 line) ≡ form
    → nat_lt 65536 (length (s.begun ++ line_content s.number (until 10 line))) ≡ joined
    → is_continued (line_content s.number (until 10 line)) ≡ ends
    → scanned_line (length s.scanned.points) (length s.scanned.faces)
    (s.begun ++ line_content s.number (until 10 line)) ≡ found
    → ((t : ScannedSoFar)
    → scan_meaning_from t more ≡ told lines_scanned (reading scan_rules (so_far t) more))
    → scan_meaning_from s (line ∷ more)
    ≡ told lines_scanned (reading scan_rules (so_far s) (line ∷ more))
unfolding judged_length line_judged joined_text and_continued and_scanned_line taken scanned_after
    line_taken judged
line_same s line more true long joined ends form found p l f j e is each = rw p refl
line_same s line more false true joined ends form found p l f j e is each = rw (p, l) refl
line_same s line more false false joined ends (Some fault) found p l f j e is each =
    rw (p, l, f) refl
line_same s line more false false true ends None found p l f j e is each = rw (p, l, f, j) refl
line_same s line more false false false true None found p l f j e is each =
    rw (p, l, f, j, e) (each (and_continued s line))
line_same s line more false false false false None (Ok x) p l f j e is each =
    rw (p, l, f, j, e, is) (each (and_scanned_line s line x))
line_same s line more false false false false None (Err x) p l f j e is each =
    rw (p, l, f, j, e, is) refl

end_same : (s : ScannedSoFar) (ended : Bool) → (s.continued == 0) ≡ ended
    → scan_meaning_from s [] ≡ told lines_scanned (reading scan_rules (so_far s) [])
end_same s true is = rw is refl
end_same s false is = rw is refl

lines_same : (s : ScannedSoFar) (ls : List (List ℕ))
    → scan_meaning_from s ls ≡ told lines_scanned (reading scan_rules (so_far s) ls)
lines_same s [] = end_same s (s.continued == 0) refl
lines_same s (line ∷ more) =
    line_same s line more _ _ _ _ _ _ refl refl refl refl refl refl (λ t. lines_same t more)

text_same : (bytes : List ℕ) (start : HeldLines) → start ≡ nothing_held
    → scan_meaning_of bytes ≡ told lines_scanned (text_read scan_rules start bytes)
unfolding scan_meaning_of text_read
text_same bytes start is =
    lines_same nothing_scanned (lines bytes)
    ∙ ap (λ (h : HeldLines). told lines_scanned (text_read scan_rules h bytes)) (sym is)

nothing_counted : passed_count none_passed < 1 - 0
unfolding passed_count
nothing_counted = omega arith

-- Before the first line.
pub start_ready : (h : HeldLines) → h ≡ nothing_held → IsReadyToScan h 1
start_ready h is =
    rw is (record {
      continued = omega arith;
      scanned = record {
        within = record {
          points = omega arith;
          inexact = omega arith;
          faces = omega arith;
          corners = All-nil (AreVerticesBelow 0);
          polygons = All-nil (IsPolygonWithin 0);
          polygons_few = omega arith;
        };
        passed = nothing_counted;
      };
    })

-- What was scanned, the fault that was found, and a failed read.
pub scan_ok : (all : Option (List ℕ)) (start end : HeldLines) → start ≡ nothing_held
    → IfSome all (λ bytes. text_read scan_rules start bytes ≡ Ok end)
    → IfSome all (λ bytes. scan_meaning_of bytes ≡ Ok end.scanned)
scan_ok all start end is =
    told_ok lines_scanned (text_read scan_rules start) scan_meaning_of all end
    (λ bytes. text_same bytes start is)

pub scan_fault : (all : Option (List ℕ)) (start : HeldLines) (e : LineFault ScanFault)
    → start ≡ nothing_held
    → IfSome all (λ bytes. IsRefusal e.fault e.line (text_read scan_rules start bytes))
    → IfSome all (λ bytes. IsRefusal e.fault e.line (scan_meaning_of bytes))
scan_fault all start e is =
    told_fault lines_scanned (text_read scan_rules start) scan_meaning_of all e.fault e.line
    (λ bytes. text_same bytes start is)

pub scan_failed : (all left : Option (List ℕ)) (start : HeldLines) → start ≡ nothing_held
    → FailsBefore scan_rules start all left → ScanFailsBefore all left
scan_failed all left start is fails = record {
  taken = fails.taken;
  took = fails.took;
  before = told_before lines_scanned (text_read scan_rules start) scan_meaning_of all
      (length fails.taken) (λ bytes. text_same bytes start is) fails.before;
}
