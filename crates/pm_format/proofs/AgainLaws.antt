-- What has no fault is read again from its words.
use Rattle.std.proofs.Common.{◌≡◌, ℕ, ◌+◌, ◌*◌, eqb, ℤ, Bool, true, false, not}
use Rattle.std.proofs.lemmas.Grind.{common_steps}
use Rattle.std.proofs.Common.{is_some, List, [], ◌∷◌, ◌++◌, Option, Some, None, Result, Ok, length}
use Rattle.std.proofs.Common.{refl, sym, ◌∙◌, ap, arith, append_assoc}
use Rattle.std.specs.List.{flat_map}
use Rattle.std.specs.Int.{w32, cast_signed, cast_unsigned}
use Rattle.std.proofs.lemmas.Int.{to_z-of_z, fits_signed_from_abs}
use Rattle.std.proofs.lemmas.List.{append-nil}
use Rattle.std.proofs.lemmas.Bool.{leb-true, and_parts, not-false, or_parts}
use Rattle.pm_base.specs.Place.{Place, is_place, is_coordinate}
use Rattle.pm_base.specs.Counts.{one_if}
use Rattle.pm_forest.specs.declared.parts.Counts.{Counts}
use Rattle.pm_forest.specs.declared.parts.Root.{Root}
use Rattle.pm_forest.specs.declared.parts.Face.{Face}
use Rattle.pm_forest.specs.declared.parts.Head.{Head}
use Rattle.pm_forest.specs.declared.parts.NewFace.{NewFace}
use Rattle.pm_forest.specs.declared.parts.Record.{Record}
use Rattle.pm_forest.specs.declared.parts.Shape.{Shape}
use Rattle.pm_forest.specs.declared.parts.Unfinished.{Unfinished}
use Rattle.pm_forest.specs.Forest.{Hierarchy}
use Rattle.pm_forest.specs.Rules.{AllFit, root_fault, base_fault, presence_is_bad}
use Rattle.pm_forest.specs.Rules.{head_is_bad, head_fault, bare, with_record, head_of, face_fault}
use Rattle.pm_forest.specs.Rules.{record_fault, record_fault_after}
use Rattle.pm_forest.specs.Shaping.{started, with_face, unfinished}
use Rattle.pm_forest.proofs.UnitLaws.{passed, first_none}
use Rattle.pm_forest.proofs.FacesTaken.{side_of-word}
use Rattle.pm_format.specs.declared.stop.Stop.{Stop}
use Rattle.pm_format.specs.Stream.{root_words, base_words, new_face_words, head_words, record_words}
use Rattle.pm_format.specs.Reading.{then_read, read_map, root_at, base_at, head_at, fitting}
use Rattle.pm_format.specs.Reading.{units_at, root_after, base_after, face_after, face_if}
use Rattle.pm_format.specs.Reading.{faces_after, record_after, record_after_all}
use Rattle.pm_format.proofs.ReadingLaws.{Reader}

-- Places

coordinate_again : (z : ℤ) → is_coordinate z ≡ true → cast_signed w32 (cast_unsigned w32 z) ≡ z
coordinate_again z is =
    to_z-of_z w32 z (fits_signed_from_abs w32 z (omega (arith, leb-true _ _ is)))

record PlaceAgain (p : Place) : Type 0 where
  x : cast_signed w32 (cast_unsigned w32 p.x) ≡ p.x
  y : cast_signed w32 (cast_unsigned w32 p.y) ≡ p.y
  z : cast_signed w32 (cast_unsigned w32 p.z) ≡ p.z

place_again : (p : Place) → is_place p ≡ true → PlaceAgain p
place_again p is = grind (arith, common_steps, and_parts, coordinate_again)

-- One unit

fitting_none : {X : Type 0} (fault : X → Option Shape) (o : Option (X × List ℕ)) (u : X × List ℕ)
    → o ≡ Some u →
    fault u.0 ≡ None → fitting fault o ≡ Ok u
fitting_none fault o u is fits = rw (is, fits) refl

root_again : (r : Root) (rest : List ℕ) → is_place r.place ≡ true
    → root_at (root_words r ++ rest) ≡ Some (r, rest)
root_again r rest is = grind (arith, common_steps, place_again)

pub root_place : (c : Counts) (before : List Root) (r : Root) → root_fault c before r ≡ None →
    is_place r.place ≡ true
unfolding root_fault
root_place c before r fits = not-false _ (passed (not (is_place r.place)) _ _ fits).0

head_again : (r : Record) (rest : List ℕ) → is_place r.t.place ≡ true → is_place r.u.place ≡ true →
    head_at (head_words r ++ rest) ≡ Some (head_of r, rest)
head_again r rest t_is u_is = grind (arith, common_steps, is_some, place_again)

-- What a head without fault has.
pub record HeadFits (r : Record) : Type 0 where
  pub t : is_place r.t.place ≡ true
  pub u : is_place r.u.place ≡ true
  pub some : presence_is_bad (head_of r).presence ≡ false

pub head_fits : (h : Hierarchy) (r : Record) → head_fault h (head_of r) ≡ None → HeadFits r
unfolding head_fault head_is_bad
head_fits h r fits = grind (arith, common_steps, and_parts, not-false, or_parts, passed)

face_again : (h : Hierarchy) (p : Unfinished) (n : NewFace) (rest : List ℕ) →
    face_fault (with_record h p.split) p.left_due (Some n) ≡ None →
    face_after h p (new_face_words (Some n) ++ rest) ≡ Ok (with_face p n, rest)
unfolding face_after
face_again h p n rest fits = grind (arith, common_steps, side_of-word)

-- The faces of a record

dues : (left right : Bool) → presence_is_bad (one_if left + 2 * one_if right) ≡ false →
    (not (eqb (one_if left + 2 * one_if right) 2) ≡ left)
    × (not (eqb (one_if left + 2 * one_if right) 1) ≡ right)
dues true true is = (refl, refl)
dues true false is = (refl, refl)
dues false true is = (refl, refl)
dues false false is = absurd cc

-- the faces that are due of a record's head
start_again : (h : Hierarchy) (r : Record) → head_fault h (head_of r) ≡ None →
    started (head_of r) ≡ unfinished (is_some r.left) (is_some r.right) (bare r)
start_again h r fits =
    let due = dues (is_some r.left) (is_some r.right) (head_fits h r fits).some in
    λ j. unfinished (due.0 j) (due.1 j) (bare r)

-- What is read after the left face.
abbrev pub then_right : Hierarchy → Unfinished × List ℕ → Result (Unfinished × List ℕ) Stop
then_right h q = face_if q.0.right_due h q.0 q.1

faces_again : (h : Hierarchy) (r : Record) (left right : Option NewFace) (rest : List ℕ) →
    face_fault (with_record h (bare r)) true left ≡ None →
    face_fault (with_record h (record (bare r) { left = left })) false right ≡ None →
    faces_after h (unfinished (is_some left) (is_some right) (bare r))
    ((new_face_words left ++ new_face_words right) ++ rest)
    ≡ Ok (unfinished false false (record r { left = left; right = right }), rest)
unfolding faces_after
faces_again h r None None rest left_fits right_fits = refl
faces_again h r (Some n) None rest left_fits right_fits =
    ap (then_read (then_right h)) (face_again h (unfinished true false (bare r)) n rest left_fits)
faces_again h r None (Some n) rest left_fits right_fits =
    face_again h (unfinished false true (bare r)) n rest right_fits
faces_again h r (Some m) (Some n) rest left_fits right_fits =
    let left = face_again h (unfinished true true (bare r)) m (new_face_words (Some n) ++ rest)
    left_fits in
    ap (then_read (then_right h)) left
    ∙ face_again h (unfinished false true (record (bare r) { left = Some m })) n rest right_fits

-- What is read after a head; and the record, once its faces are read.
abbrev pub whole_record : Result (Unfinished × List ℕ) Stop → Result (Record × List ℕ) Stop
whole_record r = read_map (λ p. (p.0.split, p.1)) r

abbrev pub then_faces : Hierarchy → Head × List ℕ → Result (Record × List ℕ) Stop
then_faces h d = whole_record (faces_after h (started d.0) d.1)

pub record_again : (h : Hierarchy) (r : Record) (rest : List ℕ) → record_fault h r ≡ None →
    record_after h (record_words r ++ rest) ≡ Ok (r, rest)
unfolding record_after record_fault
record_again h r rest fits =
    let parts = first_none (head_fault h (head_of r)) _ fits in
    let faces = first_none (face_fault (with_record h (bare r)) true r.left) _ parts.1 in
    let ws = (new_face_words r.left ++ new_face_words r.right) ++ rest in
    let is = head_fits h r parts.0 in
    let read = head_again r ws is.t is.u in
    let head = fitting_none (head_fault h) (head_at (head_words r ++ ws)) (head_of r, ws) read
    parts.0 in
    let others : faces_after h (started (head_of r)) ws ≡ Ok (unfinished false false r, rest) =
    ap (λ p. faces_after h p ws) (start_again h r parts.0)
    ∙ faces_again h r r.left r.right rest faces.0 faces.1 in
    ap (then_read (then_faces h)) head ∙ ap whole_record others

-- Units after one another

-- Each unit that has no fault is read again.
abbrev pub ReadsAgain : {X : Type 0} → Reader X → (List X → X → Option Shape) → (X → List ℕ)
    → Type 0
ReadsAgain {X} read fault words =
    (before : List X) (x : X) (rest : List ℕ) → fault before x ≡ None
    → read before (words x ++ rest) ≡ Ok (x, rest)

module _ {X : Type 0} (fault : List X → X → Option Shape) (words : X → List ℕ) where
  pub units_again : (read : Reader X) → ReadsAgain read fault words
      → (before more : List X) (rest : List ℕ) →
      AllFit fault before more →
      units_at read (length more) before (flat_map words more ++ rest) ≡ Ok (before ++ more, rest)
  unfolding units_at
  units_again read again before [] rest all =
      ap (λ (l : List X). Ok (l, rest)) (sym (append-nil before))
  units_again read again before (x ∷ xs) rest all =
      grind (
        arith,
        common_steps,
        append_assoc,
        units_again read again (before ++ x ∷ []) xs rest all.1,
      )

pub roots_again : (c : Counts) → ReadsAgain (root_after c) (root_fault c) root_words
roots_again c before r rest fits =
    let read = root_again r rest (root_place c before r fits) in
    fitting_none (root_fault c before) (root_at (root_words r ++ rest)) (r, rest) read fits

pub bases_again : (roots : List Root) → ReadsAgain (base_after roots) (base_fault roots) base_words
bases_again roots before f rest fits =
    fitting_none (base_fault roots before) (base_at (base_words f ++ rest)) (f, rest) refl fits

pub records_again : (roots : List Root) (bases : List Face) →
    ReadsAgain (record_after_all roots bases) (record_fault_after roots bases) record_words
records_again roots bases before r rest fits =
    record_again (record { roots = roots; bases = bases; records = before }) r rest fits
