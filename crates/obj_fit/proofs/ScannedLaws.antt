-- What an OBJ text spells is within the limits, and each of its points is at most 10^32 units away
-- from 0 on each axis.
use Rattle.std.proofs.Common.{◌≡◌, ℕ, ◌+◌, ◌-◌, ◌^◌, ◌<◌, ◌≤◌, Bool, true, false, ◌==◌, ◌&&◌}
use Rattle.std.proofs.lemmas.Grind.{common_steps}
use Rattle.std.proofs.Common.{nat_lt, List, [], ◌∷◌, length, ℤ, Option, Some, None, Result, Ok, Err}
use Rattle.std.proofs.Common.{IfOk, refl, arith, if◌then◌else◌}
use Rattle.std.specs.Prelude.{nat_le, unsigned_abs}
use Rattle.std.specs.List.{All}
use Rattle.std.proofs.lemmas.Bool.{ltb-false, or_parts}
use Rattle.std.proofs.lemmas.Bool.Decides.{nat_tests}
use Rattle.std.proofs.lemmas.List.Elements.{All-nil, All-cons, All-push}
use Rattle.pm_io.specs.Letters.{line_feed}
use Rattle.obj_lines.specs.Text.{until, lines, is_continued}
use Rattle.obj_scan.specs.Forms.{line_content}
use Rattle.obj_read.specs.declared.fault.ObjFault.{ObjFault}
use Rattle.obj_read.specs.declared.fault.ObjFault.TheVariants as faults
use Rattle.obj_read.specs.Fields.{fields}
use Rattle.obj_read.specs.Indices.{index_text}
use Rattle.obj_scan.specs.Refusals.{Refused}
use Rattle.obj_read.proofs.FormedLaws.{Gives, given, then_gives, unless, index_within}
use Rattle.obj_read.proofs.FormedLaws.{not_full}
use Rattle.obj_read.proofs.DecimalLaws.{with_sign_abs}
use Rattle.obj_prepare.specs.Exact.{AreExact}
use Rattle.obj_prepare.specs.Numbers.{decimal_coordinate, is_exact_field}
use Rattle.obj_scan.specs.Judged.{Scanned, Found, nothing, vertex, polygon, scanned_vertex_line}
use Rattle.obj_scan.specs.Judged.{indices, polygon_of, polygon_line, scanned_fields, scanned_line}
use Rattle.obj_scan.specs.Judged.{after_place, in_line, other_line, with_scanned}
use Rattle.obj_scan.specs.declared.fault.ScanFault.{ScanFault}
use Rattle.obj_scan.specs.declared.fault.ScanFault.TheVariants as scan_faults
use Rattle.obj_scan.specs.Passing.{none_passed, is_garbled, kind_of}
use Rattle.obj_scan.specs.Meaning.{ScannedSoFar, nothing_scanned, and_continued}
use Rattle.obj_scan.specs.Meaning.{and_scanned_line, joined_text, judged_length, then_found}
use Rattle.obj_scan.specs.Meaning.{line_judged}
use Rattle.obj_prepare.specs.Named.{AreVerticesBelow}
use Rattle.pm_ears.specs.Recutting.{IsPolygonWithin}
use Rattle.obj_scan.specs.Meaning.{then_scanned_lines, at_end, scan_meaning_from, scan_meaning_of}
use Rattle.obj_scan.specs.Meaning.{first_number}
use Rattle.obj_scan.proofs.ScanLaws.{vertex_within, polygon_kept}
use Rattle.mesh_scan.proofs.ExactLaws.{IsSound}

abbrev IsExact : ℤ → Type 0
IsExact z = unsigned_abs z ≤ 10 ^ 32

coordinate_exact : (field : List ℕ) → Gives IsExact (decimal_coordinate field)
unfolding decimal_coordinate
coordinate_exact field =
    grind (arith, common_steps, given, ltb-false, nat_lt, or_parts, unless, with_sign_abs)

-- After n vertices and k triangles there is room for what a line gives.
Suits : ℕ → ℕ → Found → Type 0
Suits n k (nothing kind) = Unit {0}
Suits n k (vertex p exact kind) = (n < 1048576) × AreExact p
Suits n k (polygon corners) = All (λ (c : ℕ). c < n) corners × (k + (length corners - 2) ≤ 1048576)

vertex_suits : (n k : ℕ) (fs : List (List ℕ)) → Gives (Suits n k) (scanned_vertex_line n fs)
unfolding Suits
vertex_suits n k [] = record { so = tt }
vertex_suits n k (a ∷ []) = record { so = tt }
vertex_suits n k (a ∷ b ∷ []) = record { so = tt }
vertex_suits n k (a ∷ b ∷ c ∷ more) =
    then_gives _ _ _ _ (coordinate_exact a)
    (λ x exact_x. then_gives _ _ _ _ (coordinate_exact b)
    (λ y exact_y. then_gives _ _ _ _ (coordinate_exact c) (λ z exact_z.
    let v = vertex (record { x = x; y = y; z = z })
    (is_exact_field a && is_exact_field b && is_exact_field c) (after_place more) in
    unless (Suits n k) (nat_le 1048576 n) faults.TooMany (Ok v)
    (λ room. given (Suits n k) v (not_full n room, (exact_x, exact_y, exact_z))))))

indices_within : (n : ℕ) (fs : List (List ℕ)) → Gives (All (λ (c : ℕ). c < n)) (indices n fs)
indices_within n [] = given _ _ (All-nil (λ (c : ℕ). c < n))
indices_within n (field ∷ more) =
    then_gives _ _ _ _ (index_within n (index_text field))
    (λ v low. then_gives _ _ _ _ (indices_within n more) (λ vs all.
    given _ _ (All-cons (λ (c : ℕ). c < n) v vs low all)))

polygon_suits : (n k : ℕ) (corners : List ℕ) → All (λ (c : ℕ). c < n) corners
    → Gives (Suits n k) (polygon_of k corners)
unfolding Suits
polygon_suits n k corners all = grind (arith, common_steps, Suits, given, nat_lt, nat_tests, unless)

face_suits : (n k : ℕ) (fs : List (List ℕ)) → Gives (Suits n k) (polygon_line n k fs)
face_suits n k [] = record { so = tt }
face_suits n k (a ∷ []) = record { so = tt }
face_suits n k (a ∷ b ∷ []) = record { so = tt }
face_suits n k (a ∷ b ∷ c ∷ more) =
    then_gives _ _ _ _ (indices_within n (a ∷ b ∷ c ∷ more)) (polygon_suits n k)

-- The same of a line, whatever it is.
record LineGives {A : Type 0} (P : A → Type 0) (r : Result A ScanFault) : Type 0 where
  so : IfOk r P

of_fields : (P : Found → Type 0) (r : Result Found ObjFault) → Gives P r → LineGives P (in_line r)
of_fields P (Ok f) is = record { so = is.so }
of_fields P (Err e) is = record { so = tt }

one_of : {A : Type 0} (P : A → Type 0) (b : Bool) (r s : Result A ScanFault) → LineGives P r
    → LineGives P s → LineGives P (if b then r else s)
one_of P true r s this that = this
one_of P false r s this that = that

other_suits : (n k : ℕ) (keyword : List ℕ) → LineGives (Suits n k) (other_line keyword)
unfolding other_line Suits
other_suits n k keyword =
    one_of (Suits n k) (is_garbled keyword) (Err scan_faults.GarbledWord)
    (Ok (nothing (Some (kind_of keyword)))) (record { so = tt }) (record { so = tt })

fields_suit : (n k : ℕ) (fs : List (List ℕ)) → LineGives (Suits n k) (scanned_fields n k fs)
unfolding Suits
fields_suit n k [] = record { so = tt }
fields_suit n k (keyword ∷ more) =
    one_of _ _ _ _ (of_fields _ _ (vertex_suits n k more))
    (one_of _ _ _ _ (of_fields _ _ (face_suits n k more)) (other_suits n k keyword))

line_suits : (n k : ℕ) (text : List ℕ) → LineGives (Suits n k) (scanned_line n k text)
unfolding scanned_line
line_suits n k text = fields_suit n k (fields text)

with_found_sound : (s : Scanned) (line : ℕ) (f : Found) → IsSound s
    → Suits (length s.points) (length s.faces) f → IsSound (with_scanned s line f)
unfolding Suits
with_found_sound s line (nothing kind) sound suits =
    record {
      exact = sound.exact;
      within = record {
        points = sound.within.points;
        inexact = sound.within.inexact;
        faces = sound.within.faces;
        corners = sound.within.corners;
        polygons = sound.within.polygons;
        polygons_few = sound.within.polygons_few;
      };
    }
with_found_sound s line (vertex p exact kind) sound suits = record {
  exact = All-push AreExact s.points p sound.exact suits.1;
  within = vertex_within s line p exact kind sound.within suits.0;
}
with_found_sound s line (polygon corners) sound suits = record {
  exact = sound.exact;
  within = polygon_kept s line corners sound.within suits.0 suits.1;
}

abbrev AfterSound : ScannedSoFar → Type 0
AfterSound s = IsSound s.scanned

then_found_sound : (r : Result Found ScanFault) (s : ScannedSoFar) (line : List ℕ)
    → LineGives (Suits (length s.scanned.points) (length s.scanned.faces)) r → AfterSound s
    → LineGives AfterSound (then_found r s line)
unfolding and_scanned_line
then_found_sound (Ok f) s line suits sound =
    record { so = with_found_sound s.scanned (first_number s) f sound suits.so }
then_found_sound (Err e) s line suits sound = record { so = tt }

judged_sound : (s : ScannedSoFar) (line : List ℕ) → AfterSound s
    → LineGives AfterSound (line_judged s line)
unfolding line_judged and_continued
judged_sound s line sound =
    let n = length s.scanned.points in
    let k = length s.scanned.faces in
    let text = joined_text s line in
    one_of AfterSound (is_continued (line_content s.number (until line_feed line)))
    (Ok (and_continued s line)) (then_found (scanned_line n k text) s line)
    (record { so = sound })
    (then_found_sound (scanned_line n k text) s line (line_suits n k text) sound)

then_lines_sound : (r : Option Refused) (next : Result ScannedSoFar ScanFault) (s : ScannedSoFar)
    (line : List ℕ) (more : ScannedSoFar → Result Scanned Refused) → LineGives AfterSound next
    → ((t : ScannedSoFar) → AfterSound t → IfOk (more t) IsSound)
    → IfOk (then_scanned_lines r next s line more) IsSound
then_lines_sound (Some r) next s line more sound keeps = tt
then_lines_sound None (Ok t) s line more sound keeps = keeps t sound.so
then_lines_sound None (Err e) s line more sound keeps = tt

end_sound : (s : ScannedSoFar) (ended : Bool) → (s.continued == 0) ≡ ended → AfterSound s
    → IfOk (at_end s) IsSound
end_sound s true is sound = rw is sound
end_sound s false is sound = rw is tt

meaning_from_sound : (s : ScannedSoFar) (ls : List (List ℕ)) → AfterSound s
    → IfOk (scan_meaning_from s ls) IsSound
meaning_from_sound s [] sound = end_sound s (s.continued == 0) refl sound
meaning_from_sound s (line ∷ more) sound =
    then_lines_sound (judged_length s line) (line_judged s line) s line
    (λ t. scan_meaning_from t more) (judged_sound s line sound)
    (λ t keeps. meaning_from_sound t more keeps)

nothing_sound : IsSound
    (record { points = []; inexact = 0; faces = []; polygons = []; passed = none_passed })
nothing_sound = record {
  exact = All-nil AreExact;
  within = record {
    points = omega arith;
    inexact = omega arith;
    faces = omega arith;
    corners = All-nil (AreVerticesBelow 0);
    polygons = All-nil (IsPolygonWithin 0);
    polygons_few = omega arith;
  };
}

pub text_sound : (bytes : List ℕ) → IfOk (scan_meaning_of bytes) IsSound
unfolding scan_meaning_of
text_sound bytes = meaning_from_sound nothing_scanned (lines bytes) nothing_sound
