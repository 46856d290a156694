-- The points of a mesh that a text spells are on the grid.
use Rattle.std.proofs.Common.{◌≡◌, ℕ, ◌≤◌, not, ◌==◌, ◌||◌, nat_lt, ℤ, List, [], ◌∷◌, length, drop}
use Rattle.std.proofs.Common.{Result, Ok, Err, IfOk, if◌then◌else◌, subst, arith}
use Rattle.std.specs.Prelude.{nat_le, unsigned_abs}
use Rattle.std.specs.List.{All}
use Rattle.std.proofs.lemmas.Bool.Decides.{nat_tests}
use Rattle.std.proofs.lemmas.List.Elements.{All-nil, All-push}
use Rattle.pm_base.specs.Place.{IsPlace}
use Rattle.pm_base.specs.Meshes.{Mesh}
use Rattle.obj_lines.specs.Text.{until, content, lines}
use Rattle.obj_read.specs.declared.fault.ObjFault.{ObjFault}
use Rattle.obj_read.specs.declared.fault.ObjFault.TheVariants as faults
use Rattle.obj_read.specs.declared.found.Found.{Found}
use Rattle.obj_read.specs.declared.found.Found.TheVariants as found
use Rattle.obj_read.specs.Fields.{fields}
use Rattle.obj_read.specs.Coordinates.{with_sign, without_sign, is_negative, is_number, are_zeros}
use Rattle.obj_read.specs.Coordinates.{decimals, magnitude, coordinate}
use Rattle.obj_read.specs.Indices.{index, index_text}
use Rattle.obj_read.specs.Judged.{vertex_of, face_read, vertex_line, face_line, fields_found}
use Rattle.obj_read.specs.Judged.{line_found}
use Rattle.obj_read.specs.Fits.{with_found}
use Rattle.obj_lines.specs.Rules.{is_past, is_long}
use Rattle.obj_read.specs.Meaning.{SoFar, Refused, nothing_yet, read_alone}
use Rattle.obj_read.specs.Meaning.{and_line, then_lines, meaning_from, meaning_of}
use Rattle.obj_read.proofs.DecimalLaws.{with_sign_abs}
use Rattle.obj_read.proofs.FormedLaws.{Gives, given, anything, then_gives, unless, either}

-- A coordinate is at most 32,767 away from 0.
abbrev IsSmall : ℤ → Type 0
IsSmall z = unsigned_abs z ≤ 32767

coordinate_small : (digits : ℕ) (field : List ℕ) → Gives IsSmall (coordinate digits field)
unfolding coordinate
coordinate_small digits field =
    let number = without_sign field in
    let n = magnitude digits number in
    let z = with_sign (is_negative field) n in
    let in_range = if nat_lt 32767 n then Err faults.OutOfRange else Ok z in
    unless IsSmall (not (is_number number)) faults.BadNumber
    (if not (are_zeros (drop digits (decimals number))) then Err faults.NotWhole else in_range)
    (λ digits_are. unless IsSmall (not (are_zeros (drop digits (decimals number)))) faults.NotWhole
    in_range
    (λ whole. unless IsSmall (nat_lt 32767 n) faults.OutOfRange (Ok z)
    (λ small. given IsSmall z
    (grind (arith, nat_tests, small, with_sign_abs (is_negative field) n)))))

-- A vertex is on the grid.
IsPlaced : Found → Type 0
IsPlaced found.Nothing = Unit {0}
IsPlaced (found.Vertex p) = IsPlace p
IsPlaced (found.Face f) = Unit {0}

vertex_placed : (d n : ℕ) (x y z : List ℕ) → Gives IsPlaced (vertex_of d n x y z)
unfolding vertex_of IsPlaced
vertex_placed d n x y z =
    then_gives _ _ _ _ (coordinate_small d x)
    (λ a small_a. then_gives _ _ _ _ (coordinate_small d y)
    (λ b small_b. then_gives _ _ _ _ (coordinate_small d z) (λ c small_c.
    let v = found.Vertex (record { x = a; y = b; z = c }) in
    unless IsPlaced (nat_le 1048576 n) faults.TooMany (Ok v)
    (λ room. given IsPlaced v (small_a, small_b, small_c)))))

face_placed : (n k : ℕ) (x y z : List ℕ) → Gives IsPlaced (face_read n k x y z)
unfolding face_read IsPlaced
face_placed n k x y z =
    then_gives _ _ _ _ (anything (index n (index_text x)))
    (λ a known_a. then_gives _ _ _ _ (anything (index n (index_text y)))
    (λ b known_b. then_gives _ _ _ _ (anything (index n (index_text z))) (λ c known_c.
    let f = found.Face (record { a = a; b = b; c = c }) in
    unless IsPlaced (a == b || b == c || c == a) faults.RepeatedCorner (if nat_le 1048576 k then
    Err faults.TooMany else Ok f)
    (λ apart. unless IsPlaced (nat_le 1048576 k) faults.TooMany (Ok f)
    (λ room. given IsPlaced f tt)))))

vertex_line_placed : (d n : ℕ) (fs : List (List ℕ)) → Gives IsPlaced (vertex_line d n fs)
vertex_line_placed d n [] = record { so = tt }
vertex_line_placed d n (x ∷ []) = record { so = tt }
vertex_line_placed d n (x ∷ y ∷ []) = record { so = tt }
vertex_line_placed d n (x ∷ y ∷ z ∷ more) = vertex_placed d n x y z

face_line_placed : (n k : ℕ) (fs : List (List ℕ)) → Gives IsPlaced (face_line n k fs)
face_line_placed n k [] = record { so = tt }
face_line_placed n k (x ∷ []) = record { so = tt }
face_line_placed n k (x ∷ y ∷ []) = record { so = tt }
face_line_placed n k (x ∷ y ∷ z ∷ []) = face_placed n k x y z
face_line_placed n k (x ∷ y ∷ z ∷ d ∷ more) = record { so = tt }

nothing_placed : Gives IsPlaced (Ok found.Nothing)
unfolding IsPlaced
nothing_placed = given IsPlaced found.Nothing tt

fields_placed : (d n k : ℕ) (fs : List (List ℕ)) → Gives IsPlaced (fields_found d n k fs)
fields_placed d n k [] = nothing_placed
fields_placed d n k (keyword ∷ more) =
    either _ _ _ _ (vertex_line_placed d n more)
    (either _ _ _ _ (face_line_placed n k more) nothing_placed)

line_placed : (d n k : ℕ) (line : List ℕ) → Gives IsPlaced (line_found d n k line)
unfolding line_found
line_placed d n k line = unless _ _ _ _ (λ ends. fields_placed d n k (fields line))

judged_placed : (s : SoFar) (line : List ℕ) → Gives IsPlaced (read_alone s line)
unfolding read_alone
judged_placed s line =
    let found = line_found s.digits (length s.mesh.points) (length s.mesh.faces)
    (content (until 10 line)) in
    unless IsPlaced (is_past s.bytes (length line)) faults.TooMany (if is_long line then
    Err faults.LineTooLong else found)
    (λ within. unless IsPlaced (is_long line) faults.LineTooLong found
    (λ short. line_placed _ _ _ (content (until 10 line))))

abbrev ArePlaced : Mesh → Type 0
ArePlaced m = All IsPlace m.points

with_found_placed : (m : Mesh) (f : Found) → ArePlaced m → IsPlaced f → ArePlaced (with_found m f)
unfolding IsPlaced
with_found_placed m found.Nothing placed is = placed
with_found_placed m (found.Vertex p) placed is = All-push IsPlace m.points p placed is
with_found_placed m (found.Face f) placed is = placed

then_lines_placed : (r : Result Found ObjFault) (s : SoFar) (line : List ℕ) (more : SoFar
    → Result Mesh Refused) → Gives IsPlaced r → ArePlaced s.mesh
    → ((t : SoFar) → ArePlaced t.mesh → IfOk (more t) ArePlaced)
    → IfOk (then_lines r s line more) ArePlaced
unfolding and_line
then_lines_placed (Ok f) s line more is placed keeps =
    keeps (and_line s line f) (with_found_placed s.mesh f placed is.so)
then_lines_placed (Err e) s line more is placed keeps = tt

meaning_from_placed : (s : SoFar) (ls : List (List ℕ)) → ArePlaced s.mesh
    → IfOk (meaning_from s ls) ArePlaced
meaning_from_placed s [] placed = placed
meaning_from_placed s (line ∷ more) placed =
    then_lines_placed (read_alone s line) s line (λ t. meaning_from t more) (judged_placed s line)
    placed (λ t keeps. meaning_from_placed t more keeps)

pub meaning_placed : (digits : ℕ) (bytes : List ℕ) (m : Mesh) → meaning_of digits bytes ≡ Ok m
    → All IsPlace m.points
unfolding meaning_of
meaning_placed digits bytes m is =
    subst (λ (r : Result Mesh Refused). IfOk r ArePlaced) is
    (meaning_from_placed (nothing_yet digits) (lines bytes) (All-nil IsPlace))
