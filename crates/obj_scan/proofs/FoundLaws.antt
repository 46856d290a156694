-- What `obj_read` finds in a line, with whole coordinates, is found in it here too.
use Rattle.std.specs.Prelude.{nat_le}
use Rattle.std.proofs.Common.{◌≡◌, ℕ, ◌+◌, ℤ, Bool, true, false, ◌==◌, ◌||◌, nat_lt, List, [], ◌∷◌}
use Rattle.std.proofs.Common.{Option, Some, None, Result, Ok, Err, refl, sym, ap, arith}
use Rattle.std.proofs.Common.{if◌then◌else◌}
use Rattle.std.proofs.lemmas.Bool.{le-ltb, leb-false}
use Rattle.std.proofs.lemmas.List.{map-append}
use Rattle.pm_base.specs.Meshes.{Mesh}
use Rattle.obj_lines.specs.Text.{is_continued}
use Rattle.obj_read.specs.declared.fault.ObjFault.{ObjFault}
use Rattle.obj_read.specs.declared.fault.ObjFault.TheVariants as faults
use Rattle.obj_read.specs.declared.found.Found.{Found as ReadFound}
use Rattle.obj_read.specs.declared.found.Found.TheVariants as reads
use Rattle.obj_read.specs.Coordinates.{coordinate}
use Rattle.obj_read.specs.Fields.{fields, is_letter}
use Rattle.obj_read.specs.Indices.{index, index_text}
use Rattle.obj_read.specs.Judged.{vertex_of, face_read, vertex_line as read_vertex}
use Rattle.obj_read.specs.Judged.{face_line as read_face, fields_found as read_fields}
use Rattle.obj_read.specs.Judged.{line_found as read_line}
use Rattle.obj_read.specs.Fits.{with_found as with_read}
use Rattle.obj_scan.specs.Polygons.{triangles}
use Rattle.obj_scan.specs.Judged.{Found, polygon_of, scanned_vertex_line, polygon_line}
use Rattle.obj_scan.specs.Judged.{scanned_fields, scanned_line, with_scanned, after_place}
use Rattle.obj_scan.specs.Judged.{in_line, other_line}
use Rattle.obj_scan.specs.declared.fault.ScanFault.{ScanFault}
use Rattle.obj_scan.specs.declared.passed.Kind.{Kind}
use Rattle.obj_scan.specs.declared.passed.PassedOver.{PassedOver}
use Rattle.obj_scan.specs.Passing.{kind_of, is_garbled, passed_after}
use Rattle.obj_scan.specs.Laws.{scaled_up, scanned_mesh, with_passed, begins_garbled}
use Rattle.obj_scan.proofs.BareLaws.{after_three, fields_passed}
use Rattle.obj_scan.proofs.NumberLaws.{whole_in_units, whole_exact}

-- What `obj_read` finds, as it is found here, where this is passed over.
abbrev pub found_of : Option Kind → ReadFound → Found
found_of kind reads.Nothing = Found.nothing kind
found_of kind (reads.Vertex p) = Found.vertex (scaled_up p) true kind
found_of kind (reads.Face f) = Found.polygon (f.a ∷ f.b ∷ f.c ∷ [])

abbrev given : Option Kind → Result ReadFound ObjFault → Result Found ObjFault
given kind (Ok f) = Ok (found_of kind f)
given kind (Err e) = Err e

abbrev given_here : Option Kind → Result ReadFound ObjFault → Result Found ScanFault
given_here kind r = in_line (given kind r)

vertex_case : (n : ℕ) (a b c : List ℕ) (more : List (List ℕ)) (f : ReadFound)
    (x y z : Result ℤ ObjFault) (full : Bool) → coordinate 0 a ≡ x → coordinate 0 b ≡ y
    → coordinate 0 c ≡ z → nat_le 1048576 n ≡ full
    → vertex_of 0 n a b c ≡ Ok f → scanned_vertex_line n (a ∷ b ∷ c ∷ more) ≡ Ok
    (found_of (after_place more) f)
unfolding vertex_of
vertex_case n a b c more f (Err e) y z full p q r room is = let k = rw p at is in cc
vertex_case n a b c more f (Ok x) (Err e) z full p q r room is = let k = rw (p, q) at is in cc
vertex_case n a b c more f (Ok x) (Ok y) (Err e) full p q r room is = let k =
    rw (p, q, r) at is in cc
vertex_case n a b c more f (Ok x) (Ok y) (Ok z) true p q r room is = let k =
    rw (p, q, r, room) at is in cc
vertex_case n a b c more f (Ok x) (Ok y) (Ok z) false p q r room is =
    let k = rw (p, q, r, room) at is in
    rw (
      whole_in_units a x p,
      whole_in_units b y q,
      whole_in_units c z r,
      room,
      whole_exact a x p,
      whole_exact b y q,
      whole_exact c z r,
    ) (ap (given (after_place more)) k)

vertex_found : (n : ℕ) (more : List (List ℕ)) (f : ReadFound) → read_vertex 0 n more ≡ Ok f
    → scanned_vertex_line n more ≡ Ok (found_of (after_three more) f)
vertex_found n [] f is = cc
vertex_found n (a ∷ []) f is = cc
vertex_found n (a ∷ b ∷ []) f is = cc
vertex_found n (a ∷ b ∷ c ∷ more) f is =
    vertex_case n a b c more f _ _ _ _ refl refl refl refl is

face_case : (weighted : Option Kind) (n k : ℕ) (x y z : List ℕ) (f : ReadFound)
    (a b c : Result ℕ ObjFault) (full : Bool) → index n (index_text x) ≡ a
    → index n (index_text y) ≡ b
    → index n (index_text z) ≡ c → nat_le 1048576 k ≡ full
    → face_read n k x y z ≡ Ok f → polygon_line n k (x ∷ y ∷ z ∷ []) ≡ Ok (found_of weighted f)
unfolding face_read
face_case weighted n k x y z f (Err e) b c full p q r room is = let h = rw p at is in cc
face_case weighted n k x y z f (Ok a) (Err e) c full p q r room is = let h = rw (p, q) at is in cc
face_case weighted n k x y z f (Ok a) (Ok b) (Err e) full p q r room is =
    let h = rw (p, q, r) at is in cc
face_case weighted n k x y z f (Ok a) (Ok b) (Ok c) full p q r room is =
    let h = rw (p, q, r, room) at is in
    rw (p, q, r) (room_case full _ room refl h)
  where
    room_case : (full again : Bool) → nat_le 1048576 k ≡ full → (a == b || b == c || c == a) ≡ again
        → (if again then Err faults.RepeatedCorner else if full then Err faults.TooMany else Ok
        (reads.Face (record { a = a; b = b; c = c }))) ≡ Ok f
        → polygon_of k (a ∷ b ∷ c ∷ []) ≡ Ok (found_of weighted f)
    room_case full true room same is = cc
    room_case true false room same is = cc
    room_case false false room same is =
        let some = leb-false _ _ room in
        let within : nat_lt 1048576 (k + 1) ≡ false = le-ltb _ _ (omega (arith, some)) in
        rw within (ap (given weighted) is)

face_found : (weighted : Option Kind) (n k : ℕ) (more : List (List ℕ)) (f : ReadFound)
    → read_face n k more ≡ Ok f → polygon_line n k more ≡ Ok (found_of weighted f)
face_found weighted n k [] f is = cc
face_found weighted n k (x ∷ []) f is = cc
face_found weighted n k (x ∷ y ∷ []) f is = cc
face_found weighted n k (x ∷ y ∷ z ∷ []) f is =
    face_case weighted n k x y z f _ _ _ _ refl refl refl refl is
face_found weighted n k (x ∷ y ∷ z ∷ w ∷ more) f is = cc

keyword_case : (n k : ℕ) (keyword : List ℕ) (more : List (List ℕ)) (f : ReadFound) (v t : Bool)
    → is_letter 118 keyword ≡ v → is_letter 102 keyword ≡ t → is_garbled keyword ≡ false
    → read_fields 0 n k (keyword ∷ more) ≡ Ok f
    → scanned_fields n k (keyword ∷ more) ≡ Ok (found_of (fields_passed (keyword ∷ more)) f)
unfolding other_line
keyword_case n k keyword more f true t a b clear is =
    rw a (ap in_line (vertex_found n more f (rw a at is)))
keyword_case n k keyword more f false true a b clear is =
    rw (a, b) (ap in_line (face_found None n k more f (rw (a, b) at is)))
keyword_case n k keyword more f false false a b clear is =
    let e = rw (a, b) at is in
    rw (a, b, clear) (ap (given_here (Some (kind_of keyword))) e)

fields_are_found : (n k : ℕ) (parts : List (List ℕ)) (f : ReadFound)
    → begins_garbled parts ≡ false → read_fields 0 n k parts ≡ Ok f
    → scanned_fields n k parts ≡ Ok (found_of (fields_passed parts) f)
fields_are_found n k [] f clear is = ap (given_here None) is
fields_are_found n k (keyword ∷ more) f clear is =
    keyword_case n k keyword more f _ _ refl refl clear is

-- A line isn't continued, and what is read of it gives this.
pub record IsFound (n k : ℕ) (text : List ℕ) (f : ReadFound) : Type 0 where
  pub ended : is_continued text ≡ false
  pub gives : scanned_line n k text ≡ Ok (found_of (fields_passed (fields text)) f)

line_case : (n k : ℕ) (text : List ℕ) (f : ReadFound) (ends : Bool) → is_continued text ≡ ends
    → begins_garbled (fields text) ≡ false → read_line 0 n k text ≡ Ok f → IsFound n k text f
unfolding read_line scanned_line
line_case n k text f true ends clear is = let e = rw ends at is in cc
line_case n k text f false ends clear is = record {
  ended = ends;
  gives = fields_are_found n k (fields text) f clear (rw ends at is);
}

pub line_is_found : (n k : ℕ) (text : List ℕ) (f : ReadFound) → begins_garbled (fields text) ≡ false
    → read_line 0 n k text ≡ Ok f → IsFound n k text f
line_is_found n k text f clear is = line_case n k text f (is_continued text) refl clear is

-- It is put into what was scanned so far as it is put into the mesh.
pub passed_with : Option Kind → ℕ → PassedOver → ReadFound → PassedOver
passed_with kind line p reads.Nothing = passed_after p line kind
passed_with kind line p (reads.Vertex q) = passed_after p line kind
passed_with kind line p (reads.Face f) = p

pub scanned_with : (kind : Option Kind) (line : ℕ) (p : PassedOver) (m : Mesh) (f : ReadFound)
    → with_scanned (with_passed p (scanned_mesh m)) line (found_of kind f) ≡ with_passed
    (passed_with kind line p f) (scanned_mesh (with_read m f))
unfolding triangles passed_with
scanned_with kind line p m reads.Nothing = refl
scanned_with kind line p m (reads.Vertex q) =
    ap (λ points. record {
      points = points;
      inexact = 0;
      faces = m.faces;
      polygons = [];
      passed = passed_after p line kind;
    }) (sym (map-append scaled_up m.points (q ∷ [])))
scanned_with kind line p m (reads.Face f) = refl

-- Where nothing is passed over it stays.
pub passed_stays : (line : ℕ) (p : PassedOver) (f : ReadFound) → passed_with None line p f ≡ p
unfolding passed_with
passed_stays line p reads.Nothing = refl
passed_stays line p (reads.Vertex q) = refl
passed_stays line p (reads.Face f) = refl
