-- Faces by number and faces as a list are the same faces.
use Rattle.std.proofs.Common.{◌≡◌, ℕ, zero, suc, ◌+◌, ◌-◌, ◌*◌, ◌<◌, ◌≤◌, eqb, leb, cond, ◌&&◌, []}
use Rattle.std.proofs.lemmas.Grind.{common_steps}
use Rattle.std.proofs.Common.{◌++◌, length, get_or, Option, None, Some, is_some, inl, inr, refl}
use Rattle.std.proofs.Common.{sym, ap, ◌∙◌, arith, length-append}
use Rattle.std.proofs.lemmas.Bool.{cases_lt, eq-eqb, ne_eqb, le-leb, lt-leb, cond-true}
use Rattle.std.proofs.lemmas.Bool.{cond-false}
use Rattle.std.proofs.lemmas.List.{get_or_append_left, get_or-append_right, take_all}
use Rattle.std.specs.List.{flat_map}
use Rattle.std.specs.Option.{unwrap_or}
use Rattle.pm_base.specs.Counts.{one_if}
use Rattle.pm_base.proofs.Counts.{one_if-le}
use Rattle.pm_forest.specs.declared.parts.NewFace.{NewFace}
use Rattle.pm_forest.specs.declared.parts.Record.{Record}
use Rattle.pm_forest.specs.Forest.{Hierarchy, record_at, record_count}
use Rattle.pm_forest.specs.Faces.{no_face_corners, no_face, face_in, faces_in, faces_of, first_face}
use Rattle.pm_forest.specs.Faces.{face_count, revealed_after, is_left, corners_told_by, corners_of}
use Rattle.pm_forest.proofs.Prefix.{cut, cut-more, faces_of-with_record}

pub length-face_in : (o : Option NewFace) → length (face_in o) ≡ one_if (is_some o)
length-face_in None = refl
length-face_in (Some n) = refl

pub length-faces_in : (r : Record)
    → length (faces_in r) ≡ one_if (is_some r.left) + one_if (is_some r.right)
length-faces_in r = grind (arith, common_steps, length-append, length-face_in)

-- the faces of the first records, one record on
pub faces_of-cut_more : (h : Hierarchy) (k : ℕ) → k < record_count h →
    faces_of (cut h (suc k)) ≡ faces_of (cut h k) ++ faces_in (record_at h k)
faces_of-cut_more h k l =
    ap faces_of (cut-more h k l) ∙ faces_of-with_record (cut h k) (record_at h k)

pub length-faces_of_cut : (h : Hierarchy) (k : ℕ) → k ≤ record_count h
    → length (faces_of (cut h k)) ≡ first_face h k
unfolding faces_of first_face
length-faces_of_cut h zero l = omega (arith, length-append h.bases (flat_map faces_in []))
length-faces_of_cut h (suc k) l =
    grind (
      arith,
      common_steps,
      cut,
      faces_of-cut_more,
      length-append,
      length-faces_in,
      length-faces_of_cut h k,
    )

pub faces_of-cut_all : (h : Hierarchy) → faces_of (cut h (record_count h)) ≡ faces_of h
unfolding faces_of
faces_of-cut_all h =
    ap (λ rs. h.bases ++ flat_map faces_in rs) (take_all (record_count h) h.records (omega arith))

pub length-faces_of : (h : Hierarchy) → length (faces_of h) ≡ face_count h
length-faces_of h =
    ap length (sym (faces_of-cut_all h)) ∙ length-faces_of_cut h (record_count h) (omega arith)

-- each record brings in two faces at most
pub first_face-le : (h : Hierarchy) (k : ℕ) → first_face h k ≤ length h.bases + 2 * k
unfolding first_face
first_face-le h zero = omega arith
first_face-le h (suc k) = grind (arith, common_steps, is_some, one_if-le, first_face-le h k)

pub face_count-le : (h : Hierarchy) → face_count h ≤ length h.bases + 2 * record_count h
face_count-le h = first_face-le h (record_count h)

-- the faces of a record by number and as a list
new_face-at : (l r : Option NewFace) (first f : ℕ) → first ≤ f
    → f < first + one_if (is_some l) + one_if (is_some r) →
    (cond (is_some l && eqb f first) (unwrap_or l no_face) (unwrap_or r no_face)).face
    ≡ get_or (face_in l ++ face_in r) (f - first) no_face_corners
new_face-at None None first f a b = absurd (omega arith)
new_face-at None (Some m) first f a b = let place : f - first ≡ 0 = omega arith in rw place refl
new_face-at (Some n) None first f a b = grind (arith, common_steps, eq-eqb)
new_face-at (Some n) (Some m) first f a b = grind (arith, common_steps, eq-eqb, ne_eqb)

corners_after : (h : Hierarchy) (k f : ℕ) → k ≤ record_count h → f < first_face h k →
    corners_told_by h f (revealed_after h k f) ≡ get_or (faces_of (cut h k)) f no_face_corners
unfolding faces_of first_face revealed_after is_left
corners_after h zero f l below =
    sym (get_or_append_left h.bases (flat_map faces_in []) no_face_corners f below)
corners_after h (suc k) f l below =
    let r = record_at h k in
    let len = length-faces_of_cut h k (omega arith) in
    let more = ap (λ fs. get_or fs f no_face_corners) (faces_of-cut_more h k l) in
    elim (cases_lt f (first_face h k)) [
      | inl before ↦
          grind (
            arith,
            common_steps,
            cond-false,
            cut,
            get_or_append_left,
            lt-leb,
            corners_after h k f,
          )
      | inr past ↦
          let revealed =
          cond-true (leb (first_face h k) f) (Some k) (revealed_after h k f)
          (le-leb (first_face h k) f past) in
          let new = get_or-append_right (faces_of (cut h k)) (faces_in r) (first_face h k) f
          no_face_corners len past in
          ap (corners_told_by h f) revealed
          ∙ new_face-at r.left r.right (first_face h k) f past below ∙ sym new ∙ sym more
    ]

-- the corners of face f are those of the list's face f
pub corners_of-faces_of : (h : Hierarchy) (f : ℕ) → f < face_count h →
    corners_of h f ≡ get_or (faces_of h) f no_face_corners
unfolding corners_of
corners_of-faces_of h f l =
    corners_after h (record_count h) f (omega arith) l
    ∙ ap (λ fs. get_or fs f no_face_corners) (faces_of-cut_all h)
