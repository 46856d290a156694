-- What is wrong with a face of the coming record, and with a face whose input number is too great.
use Rattle.std.proofs.Common.{◌≡◌, ℕ, ◌+◌, ◌-◌, ◌*◌, ◌<◌, ◌≤◌, Bool, ◌||◌, not, if◌then◌else◌}
use Rattle.std.proofs.lemmas.Grind.{common_steps}
use Rattle.std.proofs.Common.{nat_le, nat_lt, drop, Option, None, Some, is_some, refl, arith}
use Rattle.std.proofs.Math.ListN.{drop_of_length-le}
use Rattle.pm_base.specs.Counts.{one_if}
use Rattle.pm_forest.specs.declared.parts.Face.{Face}
use Rattle.pm_forest.specs.declared.parts.Record.{Record}
use Rattle.pm_forest.specs.Forest.{Hierarchy, Interval, leaf_count, record_count, t_of}
use Rattle.pm_forest.specs.Forest.{u_of, interval_of}
use Rattle.pm_forest.specs.Faces.{faces_of, first_face, face_count, revealed_by}
use Rattle.pm_forest.specs.Rules.{with_record, runs, new_face_is_bad, past_from}
use Rattle.pm_forest.specs.Tables.{all_of}
use Rattle.pm_forest.proofs.FaceNumbers.{revealed-parts}
use Rattle.pm_forest.proofs.FaceLists.{length-faces_of}
use Rattle.pm_forest.proofs.Prefix.{record_count-with_record, s_of-with_record_last}
use Rattle.pm_forest.proofs.Prefix.{first_face-with_record, face_count-with_record}

-- the faces of the coming record are the last ones
pub faces_coming : (h : Hierarchy) (coming : Option Record) (r : Record) → coming ≡ Some r →
    face_count (all_of h coming) ≡ first_face (all_of h coming) (record_count h) + one_if
    (is_some r.left) + one_if (is_some r.right)
faces_coming h coming r is =
    grind (arith, common_steps, face_count-with_record, first_face-with_record)

-- the parts by which a face of the coming record is judged: its place, and the words that name its
-- neighbours
pub new_face_coming : (h : Hierarchy) (coming : Option Record) (r : Record) (left out : Bool)
    (f : Face) (first second sides count : ℕ) →
    coming ≡ Some r →
    (let t : Interval = interval_of (all_of h coming) (t_of h (record_count h)) in
    let u : Interval = interval_of (all_of h coming) (u_of h (record_count h)) in
    let s : Interval = interval_of (all_of h coming) r.s in
    out ≡ (nat_le (leaf_count h) f.a || nat_le (leaf_count h) f.b || nat_le (leaf_count h) f.c
    || not (if left then runs t u s f else runs u t s f))) →
    sides ≡ first_face (all_of h coming) (record_count h) → count ≡ face_count (all_of h coming) →
    new_face_is_bad (all_of h coming) left f first second
    ≡ (out || nat_lt (3 * sides) first || nat_lt (3 * sides) second || nat_le 1048576 count)
unfolding new_face_is_bad
new_face_coming h coming r left out f first second sides count is place sides_are count_is =
    let last : record_count (with_record h r) - 1 ≡ record_count h =
    omega (arith, record_count-with_record h r) in
    rw (place, sides_are, count_is, is) (rw (last, s_of-with_record_last h r) refl)

-- a face that is there is revealed by a record that is there
pub revealed_below : (h : Hierarchy) (coming : Option Record) (f k : ℕ) → coming ≡ None
    → f < face_count h →
    revealed_by (all_of h coming) f ≡ Some k → k < record_count h
revealed_below h coming f k none l is = (revealed-parts h f k l (rw none at is)).0

-- the search for a face whose input number passes the number of faces ends after the last
pub past_nowhere : (h : Hierarchy) (f : ℕ) → face_count h ≤ f → past_from h f (drop f (faces_of h))
    ≡ None
past_nowhere h f l =
    rw (drop_of_length-le (faces_of h) {i = f} (omega (arith, length-faces_of h))) refl
