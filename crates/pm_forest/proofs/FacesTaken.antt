-- What a shaper keeps with each face of a record that it takes in.
use Rattle.std.proofs.Common.{◌≡◌, ℕ, ◌+◌, ◌-◌, Bool, true, false, ◌&&◌, ◌||◌, List, [], ◌∷◌, ◌++◌}
use Rattle.std.proofs.Common.{length, Option, None, Some, is_some, IfSome, inl, inr, refl, sym, ◌∙◌}
use Rattle.std.proofs.Common.{arith, append_assoc}
use Rattle.std.proofs.Math.Bool.{or-false}
use Rattle.std.proofs.lemmas.Bool.{cases_eq, ne_eqb, false≢true}
use Rattle.std.proofs.lemmas.List.{append-nil, length_push, map_push}
use Rattle.pm_base.specs.declared.ids.Side.{Side}
use Rattle.pm_base.proofs.Search.{not_some}
use Rattle.pm_forest.specs.declared.parts.Counts.{Counts}
use Rattle.pm_forest.specs.declared.parts.Face.{Face}
use Rattle.pm_forest.specs.declared.parts.NewFace.{NewFace}
use Rattle.pm_forest.specs.declared.parts.Record.{Record}
use Rattle.pm_forest.specs.Marks.{AreMarked}
use Rattle.pm_forest.specs.Forest.{Hierarchy}
use Rattle.pm_forest.specs.Faces.{face_in, faces_of}
use Rattle.pm_forest.specs.Rules.{node_inputs, face_inputs, head_fault, new_face_fault, face_fault}
use Rattle.pm_forest.specs.Rules.{record_fault, record_fault_after, bare, left_only, with_record}
use Rattle.pm_forest.specs.Rules.{word_of, head_with}
use Rattle.pm_forest.specs.Tables.{Grown, grown, with_new_face}
use Rattle.pm_forest.specs.Shaping.{side_of, next_face, SplitFits, ComingFits, IsShaping}
use Rattle.pm_forest.proofs.Prefix.{faces_of-with_record}
use Rattle.pm_forest.proofs.UnitLaws.{AllFit-push}
use Rattle.pm_forest.proofs.HeadShaping.{nodes_with_record}
use Rattle.pm_forest.proofs.GrowingLaws.{some_coming}

-- A record without its right face, without any, and the words of its neighbours

without_right : (r : Record) → is_some r.right ≡ false → r ≡ left_only r
without_right r none = λ i. record r { right = not_some r.right none i }

without_faces : (r : Record) → is_some r.left ≡ false → is_some r.right ≡ false → r ≡ bare r
without_faces r no_left no_right =
    λ i. record r { left = not_some r.left no_left i; right = not_some r.right no_right i }

-- the word of the side that a word names, and the side that the word of a side names
pub word_of-side : (word : ℕ) → word_of (side_of word) ≡ word
word_of-side word = elim (cases_eq word 0) [
  | inl is ↦ (rw is refl)
  | inr some ↦ (rw (ne_eqb word 0 some) (omega arith))
]

pub side_of-word : (o : Option Side) → side_of (word_of o) ≡ o
side_of-word None = refl
side_of-word (Some e) =
    let n : e.0 + 1 - 1 ≡ e.0 = omega arith in
    rw (ne_eqb (e.0 + 1) 0 (omega arith)) (λ j. Some (record { 0 = n j }))

-- The record once it has the face that was due

-- What is right with a record that has the face that was due: its head tells its faces and those
-- still due.
record FaceFits (h : Hierarchy) (r : Record) (right_due : Bool) : Type 0 where
  head : head_fault h (head_with r (is_some r.left) (is_some r.right || right_due)) ≡ None
  split : SplitFits h r.s r.width
  left : face_fault (with_record h (bare r)) true r.left ≡ None
  right : face_fault (with_record h (left_only r)) false r.right ≡ None
  alone : right_due ≡ true → is_some r.right ≡ false

left_fits : (h : Hierarchy) (r : Record) (right_due : Bool) (f : Face) (first second : ℕ)
    → ComingFits h r true right_due →
    new_face_fault (with_record h r) true f first second ≡ None
    → FaceFits h (with_new_face r true (next_face f first second)) right_due
left_fits h r right_due f first second s fits =
    let no_left = s.no_left refl in
    record {
      head = rw no_left at s.head;
      split = s.split;
      left = rw (word_of-side first, word_of-side second, ← without_faces r no_left s.no_right)
          fits;
      right = rw (not_some r.right s.no_right) refl;
      alone = λ due. s.no_right;
    }

right_fits : (h : Hierarchy) (r : Record) (f : Face) (first second : ℕ) → ComingFits h r false true
    →
    new_face_fault (with_record h r) false f first second ≡ None
    → FaceFits h (with_new_face r false (next_face f first second)) false
right_fits h r f first second s fits =
    record {
      head = rw (s.no_right, or-false (is_some r.left)) at s.head;
      split = s.split;
      left = s.left;
      right = rw (word_of-side first, word_of-side second, ← without_right r s.no_right) fits;
      alone = λ due. absurd cc;
    }

face_fits : (h : Hierarchy) (r : Record) (left right : Bool) (f : Face) (first second : ℕ)
    → ComingFits h r left right →
    new_face_fault (with_record h r) left f first second ≡ None
    → FaceFits h (with_new_face r left (next_face f first second)) (right && left)
face_fits h r true true f first second s fits = left_fits h r true f first second s fits
face_fits h r true false f first second s fits = left_fits h r false f first second s fits
face_fits h r false true f first second s fits = right_fits h r f first second s fits
face_fits h r false false f first second s fits = absurd (false≢true s.due)

-- the record goes on, or is complete
face_goes_on : (h : Hierarchy) (r : Record) → FaceFits h r true → ComingFits h r false true
face_goes_on h r s = record {
  head = rw (or-false (is_some r.left)) s.head;
  split = s.split;
  left = s.left;
  no_right = s.alone refl;
  no_left = λ due. absurd cc;
  due = refl;
}

face_completes : (h : Hierarchy) (r : Record) → FaceFits h r false → record_fault h r ≡ None
unfolding record_fault
face_completes h r s = rw (← or-false (is_some r.right), s.head, s.left, s.right) refl

-- The faces and the input numbers of all units

-- there is one face more
faces_more : (h : Hierarchy) (r : Record) (left : Bool) (n : NewFace) → is_some r.right ≡ false
    → (left ≡ true → is_some r.left ≡ false) →
    faces_of (with_record h (with_new_face r left n)) ≡ faces_of (with_record h r) ++ n.face ∷ []
faces_more h r true n no_right no_left =
    rw (faces_of-with_record h (with_new_face r true n), faces_of-with_record h r)
    (rw (not_some r.left (no_left refl), not_some r.right no_right, append-nil (faces_of h)) refl)
faces_more h r false n no_right no_left =
    rw (faces_of-with_record h (with_new_face r false n), faces_of-with_record h r)
    (rw (
      not_some r.right no_right,
      append-nil (face_in r.left),
      append_assoc (faces_of h)
          (face_in r.left) (n.face ∷ []),
    ) refl)

-- and the nodes are the same
nodes_same : (h : Hierarchy) (r : Record) (left : Bool) (n : NewFace) →
    node_inputs (with_record h (with_new_face r left n)) ≡ node_inputs (with_record h r)
nodes_same h r true n = nodes_with_record h (with_new_face r true n) ∙ sym (nodes_with_record h r)
nodes_same h r false n = nodes_with_record h (with_new_face r false n) ∙ sym (nodes_with_record h r)

-- and there are as many records
length_with : (h : Hierarchy) (r q : Record)
    → length (with_record h r).records ≡ length (with_record h q).records
length_with h r q = length_push h.records r ∙ sym (length_push h.records q)

-- The face and, once none is due, the record

face_to : (c : Counts) (h : Hierarchy) (r : Record) (left right : Bool)
    (vertices faces faces' : List Bool) (f : Face) (first second : ℕ) →
    IsShaping (record { counts = c; h = h; coming = Some r }) left right vertices faces →
    new_face_fault (with_record h r) left f first second ≡ None →
    AreMarked faces' (face_inputs (faces_of (with_record h r)) ++ f.input ∷ [])
    → length faces' ≡ length faces → right && left ≡ true →
    IsShaping (record {
      counts = c;
      h = h;
      coming = Some (with_new_face r left (next_face f first second));
    }) false true vertices
    faces'
face_to c h r left right vertices faces faces' f first second s fits marked flags due =
    let n = next_face f first second in
    let fit = face_fits h r left right f first second s.coming_fits fits in
    let more = faces_more h r left n s.coming_fits.no_right s.coming_fits.no_left in
    let count = length_with h (with_new_face r left n) r in
    record {
      counts_fit = s.counts_fit;
      roots_fit = s.roots_fit;
      bases_fit = s.bases_fit;
      records_fit = s.records_fit;
      coming_fits = face_goes_on h (with_new_face r left n) (rw due at fit);
      roots_most = s.roots_most;
      bases_most = s.bases_most;
      records_most = omega (arith, s.records_most);
      roots_first = λ some. s.roots_first (omega arith);
      bases_next = λ some. s.bases_next (omega arith);
      nodes_marked = rw (nodes_same h r left n) s.nodes_marked;
      node_flags = s.node_flags;
      faces_marked =
          rw (more, map_push (λ (x : Face). x.input) (faces_of (with_record h r)) f) marked;
      face_flags = flags ∙ s.face_flags;
    }

pub face_added : (g g' : Grown) (left right : Bool) (vertices faces faces' : List Bool) (f : Face)
    (first second : ℕ) (a b : Option Side) →
    IsShaping g left right vertices faces → is_some g.coming ≡ true
    → new_face_fault (grown g) left f first second ≡ None →
    a ≡ side_of first → b ≡ side_of second →
    IfSome g.coming
    (λ r. g' ≡ record g
    { coming = Some (with_new_face r left (record { face = f; first = a; second = b })) }) →
    AreMarked faces' (face_inputs (faces_of (grown g)) ++ f.input ∷ [])
    → length faces' ≡ length faces → right && left ≡ true →
    IsShaping g' false true vertices faces'
face_added g g' left right vertices faces faces' f first second a b s there fits first_is second_is
    put marked flags due =
    let at = some_coming g.coming there in
    rw (rw (at.1, first_is, second_is) at put)
    (face_to g.counts g.h at.0 left right vertices faces faces' f first second (rw at.1 at s)
    (rw at.1 at fits) (rw at.1 at marked) flags due)

record_to : (c : Counts) (h : Hierarchy) (r : Record) (left right : Bool)
    (vertices faces faces' : List Bool) (f : Face) (first second : ℕ) →
    IsShaping (record { counts = c; h = h; coming = Some r }) left right vertices faces →
    new_face_fault (with_record h r) left f first second ≡ None →
    AreMarked faces' (face_inputs (faces_of (with_record h r)) ++ f.input ∷ [])
    → length faces' ≡ length faces → right && left ≡ false →
    IsShaping (record {
      counts = c;
      h = with_record h (with_new_face r left (next_face f first second));
      coming = None;
    }) false
    false vertices faces'
record_to c h r left right vertices faces faces' f first second s fits marked flags due =
    let n = next_face f first second in
    let fit = face_fits h r left right f first second s.coming_fits fits in
    let more = faces_more h r left n s.coming_fits.no_right s.coming_fits.no_left in
    let count = length_with h (with_new_face r left n) r in
    let complete = face_completes h (with_new_face r left n) (rw due at fit) in
    record {
      counts_fit = s.counts_fit;
      roots_fit = s.roots_fit;
      bases_fit = s.bases_fit;
      records_fit =
          AllFit-push (record_fault_after h.roots h.bases) [] h.records (with_new_face r left n)
          s.records_fit complete;
      coming_fits = (refl, refl);
      roots_most = s.roots_most;
      bases_most = s.bases_most;
      records_most = omega (arith, s.records_most);
      roots_first = λ some. s.roots_first (omega arith);
      bases_next = λ some. s.bases_next (omega arith);
      nodes_marked = rw (nodes_same h r left n) s.nodes_marked;
      node_flags = s.node_flags;
      faces_marked =
          rw (more, map_push (λ (x : Face). x.input) (faces_of (with_record h r)) f) marked;
      face_flags = flags ∙ s.face_flags;
    }

pub record_added : (g g' g'' : Grown) (left right : Bool) (vertices faces faces' : List Bool)
    (f : Face) (first second : ℕ) (a b : Option Side) →
    IsShaping g left right vertices faces → is_some g.coming ≡ true
    → new_face_fault (grown g) left f first second ≡ None →
    a ≡ side_of first → b ≡ side_of second →
    IfSome g.coming
    (λ r. g' ≡ record g
    { coming = Some (with_new_face r left (record { face = f; first = a; second = b })) }) →
    IfSome g'.coming (λ r. g'' ≡ record g' { h = with_record g'.h r; coming = None }) →
    AreMarked faces' (face_inputs (faces_of (grown g)) ++ f.input ∷ [])
    → length faces' ≡ length faces → right && left ≡ false →
    IsShaping g'' false false vertices faces'
record_added g g' g'' left right vertices faces faces' f first second a b s there fits first_is
    second_is put settled marked flags due =
    let at = some_coming g.coming there in
    rw (rw (rw (at.1, first_is, second_is) at put) at settled)
    (record_to g.counts g.h at.0 left right vertices faces faces' f first second (rw at.1 at s)
    (rw at.1 at fits) (rw at.1 at marked) flags due)
