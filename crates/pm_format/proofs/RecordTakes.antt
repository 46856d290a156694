-- What a record is read from, its head and then its faces, is spelled so, and none of it has a
-- fault.
use Rattle.std.proofs.Common.{◌≡◌, ℕ, ◌+◌, ◌*◌, eqb, Bool, true, false, ◌||◌, not}
use Rattle.std.proofs.lemmas.Grind.{common_steps}
use Rattle.std.proofs.Common.{is_some, List, [], ◌∷◌, ◌++◌, Some, None, Ok, refl, sym, ◌∙◌, ap}
use Rattle.std.proofs.Common.{subst, arith}
use Rattle.std.proofs.lemmas.Bool.{eqb-false, ltb-false, or_parts, eq-eqb, ne_eqb}
use Rattle.std.proofs.lemmas.Option.{same_Some}
use Rattle.std.proofs.lemmas.Int.{of_z-to_z}
use Rattle.pm_base.specs.Counts.{one_if}
use Rattle.pm_forest.specs.declared.parts.Root.{Root}
use Rattle.pm_forest.specs.declared.parts.Face.{Face}
use Rattle.pm_forest.specs.declared.parts.Head.{Head}
use Rattle.pm_forest.specs.declared.parts.NewFace.{NewFace}
use Rattle.pm_forest.specs.declared.parts.Record.{Record}
use Rattle.pm_forest.specs.declared.parts.Unfinished.{Unfinished}
use Rattle.pm_forest.specs.Forest.{Hierarchy}
use Rattle.pm_forest.specs.Rules.{split_is_bad, presence_is_bad, head_is_bad, head_fault}
use Rattle.pm_forest.specs.Rules.{bare, left_only, with_record, head_with, head_of}
use Rattle.pm_forest.specs.Rules.{face_fault, record_fault, record_fault_after}
use Rattle.pm_forest.specs.Shaping.{started, with_face, unfinished}
use Rattle.pm_forest.proofs.UnitLaws.{passed}
use Rattle.pm_forest.proofs.FacesTaken.{word_of-side}
use Rattle.pm_format.specs.Words.{AreWords}
use Rattle.pm_format.specs.Stream.{place_words, base_words, new_face_words, head_words}
use Rattle.pm_format.specs.Stream.{record_words}
use Rattle.pm_format.specs.Reading.{FaceUnit, head_at, new_face_at, fitting, face_after, face_if}
use Rattle.pm_format.specs.Reading.{faces_after, record_after, record_after_all}
use Rattle.pm_format.proofs.ReadingLaws.{same_Ok, then_read_ok}
use Rattle.pm_format.proofs.TakesLaws.{Takes, takes_both, fitting_ok, Reads}

-- A head

-- The words of a head, where its last word is this one; and the head.
abbrev words_with : Record → ℕ → List ℕ
words_with r presence =
    r.s ∷ r.width
    ∷ (place_words r.t.place ++ r.t.input
    ∷ (place_words r.u.place ++ r.u.input ∷ presence ∷ []))

abbrev head_from : Record → ℕ → Head
head_from r presence = record (head_with r false false) { presence = presence }

record HeadTakes (ws : List ℕ) (d : Head) (rest : List ℕ) : Type 0 where
  whole : d ≡ head_from (started d).split d.presence
  takes : Takes ws (words_with (started d).split d.presence) rest

head_takes : (ws : List ℕ) (u : Head × List ℕ) → AreWords ws → head_at ws ≡ Some u
    → HeadTakes ws u.0 u.1
head_takes (s ∷ w ∷ tx ∷ ty ∷ tz ∷ ti ∷ ux ∷ uy ∷ uz ∷ ui ∷ p ∷ ws) u fit is =
    grind (arith, common_steps, of_z-to_z, same_Some)
head_takes [] u fit is = absurd cc
head_takes (s ∷ []) u fit is = absurd cc
head_takes (s ∷ w ∷ []) u fit is = absurd cc
head_takes (s ∷ w ∷ tx ∷ []) u fit is = absurd cc
head_takes (s ∷ w ∷ tx ∷ ty ∷ []) u fit is = absurd cc
head_takes (s ∷ w ∷ tx ∷ ty ∷ tz ∷ []) u fit is = absurd cc
head_takes (s ∷ w ∷ tx ∷ ty ∷ tz ∷ ti ∷ []) u fit is = absurd cc
head_takes (s ∷ w ∷ tx ∷ ty ∷ tz ∷ ti ∷ ux ∷ []) u fit is = absurd cc
head_takes (s ∷ w ∷ tx ∷ ty ∷ tz ∷ ti ∷ ux ∷ uy ∷ []) u fit is = absurd cc
head_takes (s ∷ w ∷ tx ∷ ty ∷ tz ∷ ti ∷ ux ∷ uy ∷ uz ∷ []) u fit is = absurd cc
head_takes (s ∷ w ∷ tx ∷ ty ∷ tz ∷ ti ∷ ux ∷ uy ∷ uz ∷ ui ∷ []) u fit is = absurd cc

presence_fits : (p : ℕ) → presence_is_bad p ≡ false
    → p ≡ one_if (not (eqb p 2)) + 2 * one_if (not (eqb p 1))
presence_fits p fit = grind (arith, common_steps, eq-eqb, eqb-false, ltb-false, ne_eqb, or_parts)

-- a head without fault says by its last word which faces follow
pub head_presence : (h : Hierarchy) (d : Head) → head_fault h d ≡ None →
    d.presence ≡ one_if (started d).left_due + 2 * one_if (started d).right_due
unfolding head_fault head_is_bad
head_presence h d fits =
    let tested = (passed (head_is_bad h d) _ _ fits).0 in
    let two = or_parts (split_is_bad h d.s d.width || presence_is_bad d.presence) _ tested in
    presence_fits d.presence
    (or_parts (split_is_bad h d.s d.width) (presence_is_bad d.presence) two.0).1

-- A new face

record UnitTakes (ws : List ℕ) (u : FaceUnit) (rest : List ℕ) : Type 0 where
  takes : Takes ws (base_words u.face ++ u.first ∷ u.second ∷ []) rest

unit_takes : (ws : List ℕ) (u : FaceUnit × List ℕ) → AreWords ws → new_face_at ws ≡ Some u
    → UnitTakes ws u.0 u.1
unit_takes (a ∷ b ∷ c ∷ i ∷ m ∷ n ∷ ws) u fit is = grind (arith, common_steps, same_Some)
unit_takes [] u fit is = absurd cc
unit_takes (a ∷ []) u fit is = absurd cc
unit_takes (a ∷ b ∷ []) u fit is = absurd cc
unit_takes (a ∷ b ∷ c ∷ []) u fit is = absurd cc
unit_takes (a ∷ b ∷ c ∷ i ∷ []) u fit is = absurd cc
unit_takes (a ∷ b ∷ c ∷ i ∷ m ∷ []) u fit is = absurd cc

record FaceTakes (h : Hierarchy) (p : Unfinished) (ws : List ℕ) (q : Unfinished) (rest : List ℕ) :
    Type 0 where
  face : NewFace
  is : q ≡ with_face p face
  fits : face_fault (with_record h p.split) p.left_due (Some face) ≡ None
  takes : Takes ws (new_face_words (Some face)) rest

face_takes : (h : Hierarchy) (p : Unfinished) (ws : List ℕ) (q : Unfinished × List ℕ) → AreWords ws
    →
    face_after h p ws ≡ Ok q → FaceTakes h p ws q.0 q.1
unfolding face_after
face_takes h p ws q fit is =
    grind (arith, common_steps, Takes, fitting_ok, same_Ok, then_read_ok, unit_takes, word_of-side)

-- The faces of a record

record FacesTake (h : Hierarchy) (r : Record) (left right : Bool) (ws : List ℕ) (q : Record)
    (rest : List ℕ) : Type 0 where
  same : bare q ≡ bare r
  has_left : is_some q.left ≡ left
  has_right : is_some q.right ≡ right
  left_fits : face_fault (with_record h (bare q)) true q.left ≡ None
  right_fits : face_fault (with_record h (left_only q)) false q.right ≡ None
  takes : Takes ws (new_face_words q.left ++ new_face_words q.right) rest

faces_take : (h : Hierarchy) (r : Record) (left right : Bool) (ws : List ℕ) (q : Unfinished
    × List ℕ) →
    AreWords ws → faces_after h (unfinished left right (bare r)) ws ≡ Ok q →
    FacesTake h r left right ws q.0.split q.1
unfolding faces_after
faces_take h r false false ws q fit is = grind (arith, common_steps, same_Ok)
faces_take h r true false ws q fit is =
    then_read_ok _ (face_after h (unfinished true false (bare r)) ws) q is (λ p was then_is.
    let t = face_takes h (unfinished true false (bare r)) ws p fit was in
    let one = unfinished false false (record (bare r) { left = Some t.face }) in
    let rest : face_if false h one p.1 ≡ Ok q =
    subst (λ (v : Unfinished). face_if v.right_due h v p.1 ≡ Ok q) t.is then_is in
    subst (λ (v : Unfinished × List ℕ). FacesTake h r true false ws v.0.split v.1)
    (same_Ok _ _ rest) (record {
      same = refl;
      has_left = refl;
      has_right = refl;
      left_fits = t.fits;
      right_fits = refl;
      takes = t.takes;
    }))
faces_take h r false true ws q fit is =
    grind (arith, common_steps, face_takes h (unfinished false true (bare r)) ws q fit is)
faces_take h r true true ws q fit is =
    then_read_ok _ (face_after h (unfinished true true (bare r)) ws) q is (λ p was then_is.
    let t = face_takes h (unfinished true true (bare r)) ws p fit was in
    let one = unfinished false true (record (bare r) { left = Some t.face }) in
    let rest : face_after h one p.1 ≡ Ok q =
    subst (λ (v : Unfinished). face_if v.right_due h v p.1 ≡ Ok q) t.is then_is in
    let two = face_takes h one p.1 q t.takes.rest_fits rest in
    subst (λ (v : Unfinished). FacesTake h r true true ws v.split q.1) (sym two.is) (record {
      same = refl;
      has_left = refl;
      has_right = refl;
      left_fits = t.fits;
      right_fits = two.fits;
      takes = takes_both ws (new_face_words (Some t.face)) p.1 (new_face_words (Some two.face)) q.1
          t.takes two.takes;
    }))

-- A record

pub record_takes : (h : Hierarchy) (ws : List ℕ) (u : Record × List ℕ) → AreWords ws
    → record_after h ws ≡ Ok u →
    (record_fault h u.0 ≡ None) × Takes ws (record_words u.0) u.1
unfolding record_after record_fault
record_takes h ws u fit is =
    then_read_ok _ (fitting (head_fault h) (head_at ws)) u is (λ d was faces_are.
    let g = fitting_ok (head_fault h) (head_at ws) d was in
    let head = head_takes ws d fit g.0 in
    let r = (started d.0).split in
    let left = (started d.0).left_due in
    let right = (started d.0).right_due in
    then_read_ok _ (faces_after h (started d.0) d.1) u faces_are (λ p faces then_is.
    let q = p.0.split in
    let f = faces_take h r left right d.1 p head.takes.rest_fits faces in
    let presence : one_if (is_some q.left) + 2 * one_if (is_some q.right) ≡ d.0.presence =
    (λ j. one_if (f.has_left j) + 2 * one_if (f.has_right j)) ∙ sym (head_presence h d.0 g.1) in
    let same_head : head_of q ≡ d.0 = (λ j. head_from (f.same j) (presence j)) ∙ sym head.whole in
    let head_fits : head_fault h (head_of q) ≡ None = ap (head_fault h) same_head ∙ g.1 in
    let same_words : words_with r d.0.presence ≡ head_words q =
    λ j. words_with (sym f.same j) (sym presence j) in
    let head_part = subst (λ (l : List ℕ). Takes ws l d.1) same_words head.takes in
    let face_words = new_face_words q.left ++ new_face_words q.right in
    let whole = takes_both ws (head_words q) d.1 face_words p.1 head_part f.takes in
    subst (λ (v : Record × List ℕ). (record_fault h v.0 ≡ None) × Takes ws (record_words v.0) v.1)
    (same_Ok _ _ then_is)
    (rw (head_fits, f.left_fits, f.right_fits) refl, whole)))

pub records_read : (roots : List Root) (bases : List Face) →
    Reads (record_after_all roots bases) (record_fault_after roots bases) record_words
records_read roots bases before ws u fit is =
    record_takes (record { roots = roots; bases = bases; records = before }) ws u fit is
