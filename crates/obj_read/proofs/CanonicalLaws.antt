-- Canonical text is read as its mesh.
use Rattle.std.proofs.Common.{◌≡◌, ℕ, ◌+◌, ◌*◌, ◌<◌, ◌≤◌, min, nat_lt, false, List, [], ◌∷◌}
use Rattle.std.proofs.Common.{◌++◌, length}
use Rattle.std.proofs.Common.{slice_index_or, Ok, refl, sym, ◌∙◌, ap, subst, arith, append_assoc}
use Rattle.std.proofs.Common.{length-append}
use Rattle.std.specs.List.{All, flat_map}
use Rattle.std.proofs.lemmas.Bool.{le-ltb}
use Rattle.std.proofs.lemmas.List.{append-nil}
use Rattle.std.proofs.lemmas.List.Elements.{All-head, All-tail}
use Rattle.pm_base.specs.Place.{Place, IsPlace}
use Rattle.pm_base.specs.declared.mesh.Corners.{Corners}
use Rattle.pm_base.specs.Meshes.{Mesh, IsFace, IsWellFormed}
use Rattle.pm_base.specs.Canonical.{point_line, corner_line, canonical_text}
use Rattle.obj_lines.specs.Text.{until, lines, content}
use Rattle.obj_lines.proofs.TextLaws.{lines_whole}
use Rattle.obj_lines.proofs.CutLaws.{before_end}
use Rattle.obj_read.specs.declared.found.Found.{Found}
use Rattle.obj_read.specs.declared.found.Found.TheVariants as found
use Rattle.obj_read.specs.Judged.{line_found}
use Rattle.obj_read.specs.Fits.{with_found}
use Rattle.obj_read.specs.Meaning.{SoFar, nothing_yet, read_alone, and_line, then_lines}
use Rattle.obj_read.specs.Meaning.{meaning_from}
use Rattle.obj_read.specs.Meaning.{meaning_of}
use Rattle.obj_read.specs.Texts.{CanonicalIsRead}
use Rattle.obj_read.proofs.LineLaws.{IsWritten, point_written, face_written}

-- This text makes this mesh of what stands before it, whatever lines follow.
pub record Reads (s : SoFar) (text : List ℕ) (m : Mesh) : Type 0 where
  pub after : SoFar
  pub digits : after.digits ≡ s.digits
  pub bytes : after.bytes ≡ s.bytes + length text
  pub mesh : after.mesh ≡ m
  pub same : (rest : List ℕ) → meaning_from s (lines (text ++ rest))
      ≡ meaning_from after (lines rest)

reads_nothing : (s : SoFar) → Reads s [] s.mesh
reads_nothing s = record {
  after = s;
  digits = refl;
  bytes = omega arith;
  mesh = refl;
  same = λ rest. refl;
}

reads_both : (s : SoFar) (text more : List ℕ) (m n : Mesh) (r : Reads s text m)
    → Reads r.after more n → Reads s (text ++ more) n
reads_both s text more m n r q = record {
  after = q.after;
  digits = q.digits ∙ r.digits;
  bytes = omega (arith, q.bytes, r.bytes, length-append text more);
  mesh = q.mesh;
  same = λ rest. ap (λ (l : List ℕ). meaning_from s (lines l)) (append_assoc text more rest)
      ∙ r.same (more ++ rest) ∙ q.same rest;
}

-- What it makes is its meaning, where no line follows.
reads_all : (s : SoFar) (text : List ℕ) (m : Mesh) → Reads s text m
    → meaning_from s (lines text) ≡ Ok m
reads_all s text m r =
    ap (λ (l : List ℕ). meaning_from s (lines l)) (sym (append-nil text)) ∙ r.same [] ∙ ap Ok r.mesh

-- A line that is neither too long nor past the end of the text is judged by what is read of it.
judged_line : (s : SoFar) (text line : List ℕ) → until 10 line ≡ text → length text ≤ 65536
    → s.bytes + length line ≤ 1073741824
    → read_alone s line ≡ line_found s.digits (length s.mesh.points) (length s.mesh.faces)
    (content text)
unfolding read_alone
judged_line s text line is short within =
    let past : nat_lt 1073741824 (s.bytes + min (length line) 65537) ≡ false =
    le-ltb _ _ (omega arith) in
    let n : length (until 10 line) ≤ 65536 =
    subst (λ (l : List ℕ). length l ≤ 65536) (sym is) short in
    let long : nat_lt 65536 (length (until 10 line)) ≡ false = le-ltb _ _ n in
    rw (past, long)
    (ap (λ (l : List ℕ). line_found s.digits (length s.mesh.points) (length s.mesh.faces)
    (content l)) is)

-- One whole line.
pub reads_line : (s : SoFar) (line : List ℕ) (f : Found) → until 10 line ≡ line
    → length line ≤ 65536 → s.bytes + length line < 1073741824
    → line_found s.digits (length s.mesh.points) (length s.mesh.faces) (content line) ≡ Ok f
    → Reads s (line ++ 10 ∷ []) (with_found s.mesh f)
unfolding and_line
reads_line s line f clean short within gives =
    let whole = line ++ 10 ∷ [] in
    let found = judged_line s line whole (before_end line clean) short
    (omega (arith, within, length-append line (10 ∷ []))) ∙ gives in
    record {
      after = and_line s whole f;
      digits = refl;
      bytes = refl;
      mesh = refl;
      same = λ rest.
          ap (λ (l : List ℕ). meaning_from s (lines l)) (append_assoc line (10 ∷ []) rest)
          ∙ ap (meaning_from s) (lines_whole line rest clean)
          ∙ ap (λ r. then_lines r s whole (λ t. meaning_from t (lines rest))) found;
    }

-- One line that is written, of at most 38 bytes.
reads_written : (s : SoFar) (text : List ℕ) (f : Found)
    → IsWritten s.digits (length s.mesh.points) (length s.mesh.faces) text f
    → s.bytes + 38 ≤ 1073741824 → Reads s text (with_found s.mesh f)
reads_written s text f w within =
    subst (λ (l : List ℕ). Reads s l (with_found s.mesh f)) (sym w.is)
    (reads_line s w.line f w.clean (omega (arith, w.few)) (omega (arith, within, w.few)) w.gives)

length_written : (d n k : ℕ) (text : List ℕ) (f : Found) → IsWritten d n k text f → length text ≤ 38
length_written d n k text f w = omega (arith, ap length w.is, length-append w.line (10 ∷ []), w.few)

-- The lines of points, and of faces.

abbrev and_points : Mesh → List Place → Mesh
and_points m ps = record { points = m.points ++ ps; faces = m.faces }

abbrev and_faces : Mesh → List Corners → Mesh
and_faces m fs = record { points = m.points; faces = m.faces ++ fs }

abbrev with_points : Mesh → List Place → Mesh
with_points m ps = record { points = ps; faces = m.faces }

abbrev with_faces : Mesh → List Corners → Mesh
with_faces m fs = record { points = m.points; faces = fs }

points_read : (d : ℕ) (s : SoFar) (ps : List Place) → d ≤ 4 → s.digits ≡ d
    → length s.mesh.points + length ps ≤ 1048576 → All IsPlace ps
    → s.bytes + 38 * length ps ≤ 1073741824
    → Reads s (flat_map (point_line d) ps) (and_points s.mesh ps)
points_read d s [] few is room places within =
    subst (Reads s []) (ap (with_points s.mesh) (sym (append-nil s.mesh.points))) (reads_nothing s)
points_read d s (p ∷ ps) few is room places within =
    let v = found.Vertex p in
    let w = subst
    (λ (e : ℕ). IsWritten e (length s.mesh.points) (length s.mesh.faces) (point_line d p) v)
    (sym is)
    (point_written d (length s.mesh.points) (length s.mesh.faces) p few (omega (arith, room))
    (All-head IsPlace p ps places)) in
    let short = length_written _ _ _ (point_line d p) v w in
    let r = reads_written s (point_line d p) v w (omega (arith, within)) in
    let count = ap (λ (m : Mesh). length m.points) r.mesh in
    let q = points_read d r.after ps few (r.digits ∙ is)
    (omega (arith, room, count, length-append s.mesh.points (p ∷ [])))
    (All-tail IsPlace p ps places) (omega (arith, within, r.bytes, short)) in
    let same : and_points r.after.mesh ps ≡ and_points s.mesh (p ∷ ps) =
    ap (λ (m : Mesh). and_points m ps) r.mesh
    ∙ ap (with_points s.mesh) (append_assoc s.mesh.points (p ∷ []) ps) in
    subst (Reads s (point_line d p ++ flat_map (point_line d) ps)) same (reads_both s _ _ _ _ r q)

faces_read : (n : ℕ) (s : SoFar) (fs : List Corners) → length s.mesh.points ≡ n → n ≤ 1048576
    → length s.mesh.faces + length fs ≤ 1048576 → All (IsFace n) fs
    → s.bytes + 38 * length fs ≤ 1073741824
    → Reads s (flat_map corner_line fs) (and_faces s.mesh fs)
faces_read n s [] is most room faces within =
    subst (Reads s []) (ap (with_faces s.mesh) (sym (append-nil s.mesh.faces))) (reads_nothing s)
faces_read n s (f ∷ fs) is most room faces within =
    let v = found.Face f in
    let face = subst (λ (k : ℕ). IsFace k f) (sym is) (All-head (IsFace n) f fs faces) in
    let w = face_written s.digits (length s.mesh.points) (length s.mesh.faces) f
    (omega (arith, is, most)) (omega (arith, room)) face in
    let short = length_written _ _ _ (corner_line f) v w in
    let r = reads_written s (corner_line f) v w (omega (arith, within)) in
    let points = ap (λ (m : Mesh). length m.points) r.mesh in
    let count = ap (λ (m : Mesh). length m.faces) r.mesh in
    let q = faces_read n r.after fs (points ∙ is) most
    (omega (arith, room, count, length-append s.mesh.faces (f ∷ [])))
    (All-tail (IsFace n) f fs faces) (omega (arith, within, r.bytes, short)) in
    let same : and_faces r.after.mesh fs ≡ and_faces s.mesh (f ∷ fs) =
    ap (λ (m : Mesh). and_faces m fs) r.mesh
    ∙ ap (with_faces s.mesh) (append_assoc s.mesh.faces (f ∷ []) fs) in
    subst (Reads s (corner_line f ++ flat_map corner_line fs)) same (reads_both s _ _ _ _ r q)

-- The text has at most 38 bytes a line.

length_lines : {X : Type 0} (line : X → List ℕ) (xs : List X) → All (λ x. length (line x) ≤ 38) xs
    → length (flat_map line xs) ≤ 38 * length xs
length_lines line [] short = omega arith
length_lines line (x ∷ xs) short =
    let few = All-head (λ y. length (line y) ≤ 38) x xs short in
    let more = length_lines line xs (All-tail (λ y. length (line y) ≤ 38) x xs short) in
    omega (arith, few, more, length-append (line x) (flat_map line xs))

length_points : (d : ℕ) (ps : List Place) → d ≤ 4 → All IsPlace ps
    → length (flat_map (point_line d) ps) ≤ 38 * length ps
length_points d ps few places = length_lines (point_line d) ps
    (λ i e lt. let p =
    slice_index_or ps i e in
    length_written d 0 0 (point_line d p) (found.Vertex p)
    (point_written d 0 0 p few (omega arith) (places i e lt)))

length_faces : (n : ℕ) (fs : List Corners) → n ≤ 1048576 → All (IsFace n) fs
    → length (flat_map corner_line fs) ≤ 38 * length fs
length_faces n fs most faces = length_lines corner_line fs
    (λ i e lt. let f =
    slice_index_or fs i e in
    length_written 0 n 0 (corner_line f) (found.Face f)
    (face_written 0 n 0 f most (omega arith) (faces i e lt)))

pub length_canonical : (digits : ℕ) (m : Mesh) → digits ≤ 4 → IsWellFormed m → All IsPlace m.points
    → length (canonical_text digits m) ≤ 79691776
unfolding canonical_text
length_canonical digits m few formed places =
    omega (
      arith,
      length-append (flat_map (point_line digits) m.points) (flat_map corner_line m.faces),
      length_points digits m.points few places,
      length_faces (length m.points) m.faces formed.points formed.corners,
      formed.points,
      formed.faces,
    )

pub canonical_is_read : CanonicalIsRead
unfolding canonical_text meaning_of
canonical_is_read digits m few formed places =
    let s = nothing_yet digits in
    let first = points_read digits s m.points few refl (omega (arith, formed.points)) places
    (omega (arith, formed.points)) in
    let points = ap (λ (k : Mesh). length k.points) first.mesh in
    let faces = ap (λ (k : Mesh). length k.faces) first.mesh in
    let short = length_points digits m.points few places in
    let second =
    faces_read (length m.points) first.after m.faces points formed.points
    (omega (arith, formed.faces, faces)) formed.corners
    (omega (arith, first.bytes, short, formed.points, formed.faces)) in
    let same : and_faces first.after.mesh m.faces ≡ m =
    ap (λ (k : Mesh). and_faces k m.faces) first.mesh in
    reads_all s (canonical_text digits m) m
    (reads_both s _ _ _ m first
    (subst (Reads first.after (flat_map corner_line m.faces)) same second))
