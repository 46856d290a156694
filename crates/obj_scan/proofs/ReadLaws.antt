-- A text that `obj_read` takes as a mesh is scanned as that mesh, by induction on its lines.
use Rattle.std.proofs.Common.{◌≡◌, ℕ, ◌+◌, ◌-◌, ◌≤◌, Bool, true, false, List, [], ◌∷◌, length, drop}
use Rattle.std.proofs.Common.{nat_lt, None, Result, Ok, Err, refl, sym, ◌∙◌, ap, arith}
use Rattle.std.proofs.Common.{length-append}
use Rattle.std.proofs.lemmas.Bool.{le-ltb, ltb-false}
use Rattle.std.proofs.lemmas.List.{length-map, length-take}
use Rattle.pm_base.specs.Meshes.{Mesh}
use Rattle.obj_lines.specs.Text.{until, lines, ends_with, without_cr, content}
use Rattle.obj_lines.specs.Rules.{is_past, is_long}
use Rattle.obj_lines.proofs.TextLaws.{until_split}
use Rattle.obj_read.specs.declared.fault.ObjFault.{ObjFault}
use Rattle.obj_read.specs.declared.found.Found.{Found as ReadFound}
use Rattle.obj_read.specs.Fits.{with_found as with_read}
use Rattle.obj_read.specs.Meaning.{SoFar as ReadSoFar, Refused as ReadRefused}
use Rattle.obj_read.specs.Meaning.{read_alone as read_judged, and_line as and_read}
use Rattle.obj_read.specs.Meaning.{then_lines as then_read, meaning_from as read_from}
use Rattle.obj_read.specs.Meaning.{meaning_of as read_meaning}
use Rattle.obj_read.proofs.CommentLaws.{commented_is_read}
use Rattle.obj_scan.specs.Refusals.{Refused}
use Rattle.obj_scan.specs.Judged.{Scanned}
use Rattle.obj_scan.specs.Meaning.{ScannedSoFar, joined_text, judged_length, line_judged}
use Rattle.obj_scan.specs.Meaning.{and_scanned_line, scan_meaning_from, scan_meaning_of}
use Rattle.obj_scan.specs.declared.passed.PassedOver.{PassedOver}
use Rattle.obj_scan.specs.Passing.{none_passed}
use Rattle.obj_scan.specs.Laws.{scanned_mesh, with_passed, passed_in, IsFormed, ReadIsScanned}
use Rattle.obj_scan.specs.Laws.{CommentedIsScanned}
use Rattle.obj_scan.proofs.FormLaws.{IsPlain, ArePlain, formed_plain, commented_formed}
use Rattle.obj_read.specs.Fields.{fields}
use Rattle.obj_scan.proofs.BareLaws.{line_passed, AreBare, none_of_bare, canonical_bare}
use Rattle.obj_scan.proofs.FoundLaws.{line_is_found, passed_with, passed_stays, scanned_with}

-- What is read of a line isn't longer than it.

length_until : (stop : ℕ) (text : List ℕ) → length (until stop text) ≤ length text
length_until stop text =
    omega (
      arith,
      ap length (until_split stop text),
      length-append (until stop text)
          (drop (length (until stop text)) text),
    )

cr_case : (text : List ℕ) (b : Bool) → ends_with 13 text ≡ b
    → length (without_cr text) ≤ length text
unfolding without_cr
cr_case text true is = rw is (omega (arith, length-take (length text - 1) text))
cr_case text false is = rw is (omega arith)

length_content : (text : List ℕ) → length (content text) ≤ length text
unfolding content
length_content text =
    omega (arith, length_until 35 (without_cr text), cr_case text (ends_with 13 text) refl)

-- How far both readings have come after so many bytes, where the next line has this number and a
-- mesh was given, and this was passed over.
abbrev read_after : ℕ → ℕ → Mesh → ReadSoFar
read_after bytes number m = record { digits = 0; bytes = bytes; number = number; mesh = m }

abbrev scan_after : ℕ → ℕ → PassedOver → Mesh → ScannedSoFar
scan_after bytes number n m = record {
  bytes = bytes;
  number = number;
  continued = 0;
  begun = [];
  scanned = with_passed n (scanned_mesh m);
}

-- What is passed over of the lines up to this one.
abbrev passed_up_to : List ℕ → ℕ → PassedOver → ReadFound → PassedOver
passed_up_to line number n f = passed_with (line_passed line) number n f

-- A line without a fault for `obj_read` has none here, and gives the same.
record IsScanned (bytes number : ℕ) (n : PassedOver) (m : Mesh) (line : List ℕ)
    (f : ReadFound) : Type 0 where
  within : judged_length (scan_after bytes number n m) line ≡ None
  gives : line_judged (scan_after bytes number n m) line ≡ Ok
      (scan_after (bytes + length line) (number + 1) (passed_up_to line number n f) (with_read m f))

less_none : (n : ℕ) → n - 0 ≡ n
less_none n = omega arith

line_case : (bytes number : ℕ) (n : PassedOver) (m : Mesh) (line : List ℕ) (f : ReadFound)
    (past long : Bool)
    → IsPlain number line → is_past bytes (length line) ≡ past → is_long line ≡ long
    → read_judged (read_after bytes number m) line ≡ Ok f → IsScanned bytes number n m line f
unfolding read_judged judged_length line_judged joined_text and_scanned_line
line_case bytes number n m line f true long plain a b is = let e = rw a at is in cc
line_case bytes number n m line f false true plain a b is = let e = rw (a, b) at is in cc
line_case bytes number n m line f false false plain a b is =
    let text = content (until 10 line) in
    let found =
    line_is_found (length m.points) (length m.faces) text f plain.clear (rw (a, b) at is) in
    let short : nat_lt 65536 (length text) ≡ false =
    le-ltb _ _ (omega (arith, length_content (until 10 line), ltb-false _ _ b)) in
    record {
      within = rw (a, b, plain.formed, plain.read, short) refl;
      gives = rw (plain.read, found.ended, length-map m.points _, found.gives, less_none number)
          (ap (λ s. Ok
          (record {
            bytes = bytes + length line;
            number = number + 1;
            continued = 0;
            begun = [];
            scanned = s;
          })) (scanned_with (line_passed line) number n m f));
    }

line_is_scanned : (bytes number : ℕ) (n : PassedOver) (m : Mesh) (line : List ℕ) (f : ReadFound)
    → IsPlain number line → read_judged (read_after bytes number m) line ≡ Ok f
    → IsScanned bytes number n m line f
line_is_scanned bytes number n m line f plain is = line_case bytes number n m line f _ _ plain refl
    refl is

-- What lines give that are read as a mesh: it, and what is passed over, of which there is no more
-- where each line is bare.
record GivesMesh (r : Result Scanned Refused) (before : PassedOver) (m : Mesh)
    (lines : List (List ℕ)) : Type 0 where
  passed : PassedOver
  gives : r ≡ Ok (with_passed passed (scanned_mesh m))
  none : AreBare lines → passed ≡ before

-- The same of a line and those after it.
then_scanned : (bytes number : ℕ) (w : PassedOver) (m n : Mesh) (line : List ℕ)
    (more : List (List ℕ)) (r : Result ReadFound ObjFault) → IsPlain number line
    → read_judged (read_after bytes number m) line ≡ r
    → ((b : ℕ) (v : PassedOver) (k : Mesh) → read_from (read_after b (number + 1) k) more ≡ Ok n
    → GivesMesh (scan_meaning_from (scan_after b (number + 1) v k) more) v n more)
    → then_read r (read_after bytes number m) line (λ t. read_from t more) ≡ Ok n
    → GivesMesh (scan_meaning_from (scan_after bytes number w m) (line ∷ more)) w n
    (line ∷ more)
unfolding and_read
then_scanned bytes number w m n line more (Ok f) plain judges later is =
    let scan = line_is_scanned bytes number w m line f plain judges in
    let rest = later (bytes + length line) (passed_up_to line number w f) (with_read m f) is in
    record {
      passed = rest.passed;
      gives = rw (scan.within, scan.gives) rest.gives;
      none = λ bare. rest.none bare.1
          ∙ ap (λ k. passed_with k number w f)
          (none_of_bare (fields (content (until 10 line))) bare.0) ∙ passed_stays number w f;
    }
then_scanned bytes number w m n line more (Err e) plain judges later is = cc

scanned_of_read : (w : PassedOver) (m n : Mesh) → ◌≡◌ {A = Result Mesh ReadRefused} (Ok m) (Ok n)
    → ◌≡◌ {A = Result Scanned Refused} (Ok (with_passed w (scanned_mesh m)))
    (Ok (with_passed w (scanned_mesh n)))
scanned_of_read w m n is = cc

lines_are_scanned : (bytes number : ℕ) (w : PassedOver) (m n : Mesh) (ls : List (List ℕ))
    → ArePlain number ls
    → read_from (read_after bytes number m) ls ≡ Ok n
    → GivesMesh (scan_meaning_from (scan_after bytes number w m) ls) w n ls
lines_are_scanned bytes number w m n [] plain is =
    record { passed = w; gives = scanned_of_read w m n is; none = λ bare. refl }
lines_are_scanned bytes number w m n (line ∷ more) plain is =
    then_scanned bytes number w m n line more _ plain.0 refl
    (λ b v k spells. lines_are_scanned b (number + 1) v k n more plain.1 spells) is

all_scanned : (bytes : List ℕ) (m : Mesh) → IsFormed bytes → read_meaning 0 bytes ≡ Ok m
    → GivesMesh (scan_meaning_of bytes) none_passed m (lines bytes)
unfolding read_meaning scan_meaning_of
all_scanned bytes m formed is =
    lines_are_scanned 0 1 none_passed (record { points = []; faces = [] }) m (lines bytes)
    (formed_plain bytes formed) is

pub read_scanned : ReadIsScanned
read_scanned bytes m formed is =
    let all = all_scanned bytes m formed is in
    let r = scan_meaning_of bytes in
    all.gives ∙ ap (λ n. Ok (with_passed n (scanned_mesh m))) (sym (ap passed_in all.gives))

pub canonical_scanned : CommentedIsScanned
canonical_scanned line m clean plain short formed places =
    let all = all_scanned _ m
    (commented_formed line m clean plain formed places)
    (commented_is_read 0 line m clean short (omega arith) formed places) in
    all.gives ∙ ap (λ n. Ok (with_passed n (scanned_mesh m)))
    (all.none (canonical_bare line m clean formed places))
