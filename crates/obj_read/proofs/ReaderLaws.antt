-- What a text means is what its lines give by the rules.
use Rattle.std.proofs.Common.{◌≡◌, ℕ, Bool, true, false, ◌||◌, List, [], ◌∷◌, length, Option}
use Rattle.std.proofs.Common.{Some, None, Result, Ok, Err, IfSome, refl, sym, ◌∙◌, ap}
use Rattle.std.proofs.Math.Bool.{or_assoc, or-false}
use Rattle.pm_base.specs.Place.{Place}
use Rattle.pm_base.specs.declared.mesh.Corners.{Corners}
use Rattle.pm_base.specs.Meshes.{Mesh}
use Rattle.obj_lines.specs.declared.fault.LineFault.{LineFault}
use Rattle.obj_lines.specs.Text.{until, lines, content}
use Rattle.obj_lines.specs.Rules.{SoFar as LinesSoFar, is_past, is_long}
use Rattle.obj_lines.specs.Rules.{judged, reading, text_read, nothing_yet as lines_yet}
use Rattle.obj_lines.specs.Fails.{IsRefusal, FailsBefore as LinesFailBefore}
use Rattle.obj_lines.proofs.ToldLaws.{told, told_ok, told_fault, told_before}
use Rattle.obj_read.specs.declared.fault.ObjFault.{ObjFault}
use Rattle.obj_read.specs.declared.found.Found.{Found}
use Rattle.obj_read.specs.Fields.{has_field}
use Rattle.obj_read.specs.Worded.{some_worded, holds_words}
use Rattle.obj_read.specs.Judged.{line_found}
use Rattle.obj_read.specs.Meaning.{SoFar, read_alone, and_line, meaning_from, nothing_yet}
use Rattle.obj_read.specs.Meaning.{meaning_of}
use Rattle.obj_read.specs.Reading.{HeldMesh, line_taken, mesh_rules}
use Rattle.obj_read.specs.Fails.{FailsBefore}

abbrev so_far : Bool → SoFar → LinesSoFar HeldMesh
so_far worded s = record {
  bytes = s.bytes;
  number = s.number;
  held = record { digits = s.digits; mesh = s.mesh; worded = worded };
}

abbrev mesh_held : HeldMesh → Mesh
mesh_held h = h.mesh

line_same : (w : Bool) (s : SoFar) (line : List ℕ) (more : List (List ℕ)) (past long : Bool)
    (found : Result Found ObjFault) → is_past s.bytes (length line) ≡ past → is_long line ≡ long
    → line_found s.digits (length s.mesh.points) (length s.mesh.faces) (content (until 10 line))
    ≡ found
    → ((v : Bool) (t : SoFar)
    → meaning_from t more ≡ told mesh_held (reading mesh_rules (so_far v t) more))
    → meaning_from s (line ∷ more) ≡ told mesh_held (reading mesh_rules (so_far w s) (line ∷ more))
unfolding read_alone and_line judged line_taken
line_same w s line more true long found is_past is_long is each = rw is_past refl
line_same w s line more false true found is_past is_long is each = rw (is_past, is_long) refl
line_same w s line more false false (Ok f) is_past is_long is each =
    rw (is_past, is_long, is)
    (each (w || has_field (content (until 10 line))) (and_line s line f))
line_same w s line more false false (Err e) is_past is_long is each =
    rw (is_past, is_long, is) refl

lines_same : (w : Bool) (s : SoFar) (ls : List (List ℕ))
    → meaning_from s ls ≡ told mesh_held (reading mesh_rules (so_far w s) ls)
lines_same w s [] = refl
lines_same w s (line ∷ more) =
    line_same w s line more _ _ _ refl refl refl (λ v t. lines_same v t more)

-- Before the first line no point and no face is held.
abbrev held : ℕ → List Place → List Corners → HeldMesh
held digits points faces = record {
  digits = digits;
  mesh = record { points = points; faces = faces };
  worded = false;
}

text_same : (digits : ℕ) (bytes : List ℕ) (points : List Place) (faces : List Corners)
    → points ≡ [] → faces ≡ []
    → meaning_of digits bytes
    ≡ told mesh_held (text_read mesh_rules (held digits points faces) bytes)
unfolding meaning_of text_read
text_same digits bytes points faces no_points no_faces =
    lines_same false (nothing_yet digits) (lines bytes)
    ∙ ap (λ (h : HeldMesh). told mesh_held (text_read mesh_rules h bytes))
    (ap (λ (l : List Place). held digits l []) (sym no_points)
    ∙ ap (λ (l : List Corners). held digits points l) (sym no_faces))

-- Where no line has a fault, it is noticed that one has a field.
worded_line : (s : LinesSoFar HeldMesh) (line : List ℕ) (more : List (List ℕ)) (end : HeldMesh)
    (past long : Bool) (found : Result Found ObjFault) → is_past s.bytes (length line) ≡ past
    → is_long line ≡ long
    → line_found s.held.digits (length s.held.mesh.points) (length s.held.mesh.faces)
    (content (until 10 line)) ≡ found
    → ((t : LinesSoFar HeldMesh) → reading mesh_rules t more ≡ Ok end
    → end.worded ≡ (t.held.worded || some_worded more))
    → reading mesh_rules s (line ∷ more) ≡ Ok end
    → end.worded ≡ (s.held.worded || some_worded (line ∷ more))
unfolding judged line_taken
worded_line s line more end true long found is_past is_long is each read =
    absurd (cc (rw is_past at read))
worded_line s line more end false true found is_past is_long is each read =
    absurd (cc (rw (is_past, is_long) at read))
worded_line s line more end false false (Err e) is_past is_long is each read =
    absurd (cc (rw (is_past, is_long, is) at read))
worded_line s line more end false false (Ok f) is_past is_long is each read =
    each _ (rw (is_past, is_long, is) at read)
    ∙ or_assoc s.held.worded (has_field (content (until 10 line))) (some_worded more)

worded_from : (s : LinesSoFar HeldMesh) (ls : List (List ℕ)) (end : HeldMesh)
    → reading mesh_rules s ls ≡ Ok end → end.worded ≡ (s.held.worded || some_worded ls)
worded_from s [] end read =
    let same : s.held ≡ end = cc in
    sym (ap (λ (h : HeldMesh). h.worded) same) ∙ sym (or-false s.held.worded)
worded_from s (line ∷ more) end read =
    worded_line s line more end _ _ _ refl refl refl (λ t. worded_from t more end) read

pub read_words : (digits : ℕ) (all : Option (List ℕ)) (points : List Place)
    (faces : List Corners) (end : HeldMesh)
    → IfSome all (λ bytes. text_read mesh_rules (held digits points faces) bytes ≡ Ok end)
    → IfSome all (λ bytes. end.worded ≡ holds_words bytes)
unfolding text_read holds_words
read_words digits None points faces end read = tt
read_words digits (Some bytes) points faces end read =
    worded_from (lines_yet (held digits points faces)) (lines bytes) end read

-- The mesh that was read, the fault that was found, and a failed read.
pub read_ok : (digits : ℕ) (all : Option (List ℕ)) (points : List Place)
    (faces : List Corners) (end : HeldMesh) → points ≡ [] → faces ≡ []
    → IfSome all (λ bytes. text_read mesh_rules (held digits points faces) bytes ≡ Ok end)
    → IfSome all (λ bytes. meaning_of digits bytes ≡ Ok end.mesh)
read_ok digits all points faces end no_points no_faces =
    told_ok mesh_held (text_read mesh_rules (held digits points faces)) (meaning_of digits) all end
    (λ bytes. text_same digits bytes points faces no_points no_faces)

pub read_fault : (digits : ℕ) (all : Option (List ℕ)) (points : List Place)
    (faces : List Corners) (e : LineFault ObjFault) → points ≡ [] → faces ≡ [] → IfSome all
    (λ bytes. IsRefusal e.fault e.line (text_read mesh_rules (held digits points faces) bytes))
    → IfSome all (λ bytes. IsRefusal e.fault e.line (meaning_of digits bytes))
read_fault digits all points faces e no_points no_faces =
    told_fault mesh_held (text_read mesh_rules (held digits points faces)) (meaning_of digits) all
    e.fault e.line (λ bytes. text_same digits bytes points faces no_points no_faces)

pub read_failed : (digits : ℕ) (all left : Option (List ℕ)) (points : List Place)
    (faces : List Corners) → points ≡ [] → faces ≡ []
    → LinesFailBefore mesh_rules (held digits points faces) all left
    → FailsBefore digits all left
read_failed digits all left points faces no_points no_faces fails = record {
  taken = fails.taken;
  took = fails.took;
  before = told_before mesh_held (text_read mesh_rules (held digits points faces))
      (meaning_of digits) all (length fails.taken)
      (λ bytes. text_same digits bytes points faces no_points no_faces) fails.before;
}
