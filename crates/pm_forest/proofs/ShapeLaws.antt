-- What the rules of shape, by which each unit is judged, say of a whole hierarchy.
use Rattle.std.proofs.Common.{◌≡◌, ℕ, zero, suc, ◌+◌, ◌<◌, ◌≤◌, eqb, leb, true, false, cond, List}
use Rattle.std.proofs.lemmas.Grind.{common_steps}
use Rattle.std.proofs.Common.{[], length, get_or, All, Option, None, Some, is_some, inl, inr, refl}
use Rattle.std.proofs.Common.{sym, ◌∙◌, arith}
use Rattle.std.proofs.lemmas.Bool.{cases_Bool, eqb-true, eq-eqb, leb-false, or_parts, and_parts}
use Rattle.std.proofs.lemmas.Bool.{and_from, cond-true, cond-false}
use Rattle.std.proofs.lemmas.List.{get_or_default}
use Rattle.std.proofs.lemmas.List.Elements.{All-map, All-get_or}
use Rattle.std.proofs.lemmas.Option.{none-some}
use Rattle.pm_base.specs.Counts.{one_if}
use Rattle.pm_base.specs.Sides.{face_of}
use Rattle.pm_base.proofs.Search.{some_from}
use Rattle.pm_forest.specs.declared.parts.Root.{Root}
use Rattle.pm_forest.specs.declared.parts.Face.{Face}
use Rattle.pm_forest.specs.declared.parts.NewFace.{NewFace}
use Rattle.pm_forest.specs.Forest.{Hierarchy, no_record, record_at, record_count, widths}
use Rattle.pm_forest.specs.Forest.{leaf_count, s_of, t_of, u_of, interval_of, Holds, HasForestShape}
use Rattle.pm_forest.specs.Faces.{no_face_corners, first_face, face_count}
use Rattle.pm_forest.specs.Faces.{revealed_after, revealed_by, is_left, corners_of, inner_of}
use Rattle.pm_forest.specs.Faces.{HasFaceShape, IsForest}
use Rattle.pm_forest.specs.Rules.{root_fault, base_is_bad, base_fault, head_is_bad}
use Rattle.pm_forest.specs.Rules.{head_fault, bare, left_only, with_record, head_of, new_face_fault}
use Rattle.pm_forest.specs.Rules.{word_of, face_fault, record_fault, record_fault_after, counts_of}
use Rattle.pm_forest.specs.Rules.{HasShape}
use Rattle.pm_forest.specs.Shaping.{SplitFits}
use Rattle.pm_forest.proofs.Nodes.{interval-kept, holds-s_from_t, holds-s_from_u, not_both}
use Rattle.pm_forest.proofs.FaceNumbers.{revealed-parts, which_face}
use Rattle.pm_forest.proofs.UnitLaws.{AllFit-at, AllFit-all, passed, first_none, counts_fit}
use Rattle.pm_forest.proofs.UnitLaws.{root_wide, BaseFits, base_fits, split_fits}
use Rattle.pm_forest.proofs.Corners.{CornersFit, corner_a, corner_b, corner_c, which_corner}
use Rattle.pm_forest.proofs.Corners.{side_along}
use Rattle.pm_forest.proofs.NewFaces.{NewFaceFits, new_face_fits, coming_face_count}
use Rattle.pm_forest.proofs.Prefix.{cut, record_count-cut, s_of-cut, interval_of-cut}
use Rattle.pm_forest.proofs.SameSplit.{unsplit}

-- Counts

pub leaf_count-le : (h : Hierarchy) → HasShape h → leaf_count h ≤ 1048576
leaf_count-le h shape = (counts_fit (counts_of h) shape.counts).0

pub base_count-le : (h : Hierarchy) → HasShape h → length h.bases ≤ 1048576
base_count-le h shape = (counts_fit (counts_of h) shape.counts).1

pub root_count-le : (h : Hierarchy) → HasShape h → length h.roots ≤ leaf_count h
root_count-le h shape = (counts_fit (counts_of h) shape.counts).2

-- there are as many records as leaves that aren't roots
pub record_count-roots : (h : Hierarchy) → HasShape h
    → record_count h + length h.roots ≡ leaf_count h
record_count-roots h shape = (counts_fit (counts_of h) shape.counts).3

-- Roots

-- no root is without leaves
pub roots_wide : (h : Hierarchy) → HasShape h → All (λ w. 0 < w) (widths h)
roots_wide h shape =
    All-map (λ w. 0 < w) (λ (r : Root). r.width) h.roots
    (AllFit-all (root_fault (counts_of h)) (λ r. 0 < r.width) (root_wide (counts_of h)) [] h.roots
    shape.roots)

-- Records

-- What is right with record k and with its faces.
pub record RecordFits (h : Hierarchy) (k : ℕ) : Type 0 where
  pub head : head_fault (cut h k) (head_of (record_at h k)) ≡ None
  pub left : face_fault (with_record (cut h k) (bare (record_at h k))) true (record_at h k).left
      ≡ None
  pub right : face_fault (with_record (cut h k) (left_only (record_at h k))) false
      (record_at h k).right ≡ None

pub record_fits : (h : Hierarchy) → HasShape h → (k : ℕ) → k < record_count h → RecordFits h k
unfolding record_fault
record_fits h shape k l =
    let r = record_at h k in
    let is : r ≡ get_or h.records k r = get_or_default h.records k no_record r l in
    let fits : record_fault (cut h k) r ≡ None =
    AllFit-at (record_fault_after h.roots h.bases) [] h.records k r shape.records l is in
    let parts = first_none _ _ fits in
    let faces = first_none _ _ parts.1 in
    record { head = parts.0; left = faces.0; right = faces.1 }

head_split : (h : Hierarchy) (k : ℕ) → RecordFits h k
    → SplitFits (cut h k) (record_at h k).s (record_at h k).width
unfolding head_fault head_is_bad
head_split h k fits = grind (arith, common_steps, cut, or_parts, passed, split_fits)

-- the nodes have the shape of a forest
pub shape_of_nodes : (h : Hierarchy) → HasShape h → HasForestShape h
unfolding s_of
shape_of_nodes h shape =
    let split : (k : ℕ) → k < record_count h
    → SplitFits (cut h k) (s_of h k) (record_at h k).width = λ k l.
    head_split h k (record_fits h shape k l) in
    let older : (k : ℕ) → k < record_count h → s_of h k < t_of h k =
    grind (arith, common_steps, record_count-cut) in
    record {
      older = older;
      once = λ j k a l.
          let earlier : j < record_count (cut h k) = omega (arith, record_count-cut h k) in
          rw (← s_of-cut h k j a) (unsplit (cut h k) (s_of h k) (split k l).unsplit j earlier);
      width = λ k l.
          let there = older k l in
          let same : interval_of (cut h k) (s_of h k) ≡ interval_of h (s_of h k) =
          interval_of-cut h k (s_of h k) (omega arith)
          ∙ sym (interval-kept h k (record_count h) (s_of h k) (omega arith) there) in
          ((split k l).first, rw same at (split k l).rest);
    }

-- Faces

pub bases_fit : (h : Hierarchy) → HasShape h → All (BaseFits h.roots) h.bases
unfolding base_fault
bases_fit h shape =
    let fits : (before : List Face) (f : Face) → base_fault h.roots before f ≡ None
    → BaseFits h.roots f = λ before f none.
    base_fits h.roots f (passed (base_is_bad h.roots f) _ _ none).0 in
    AllFit-all (base_fault h.roots) (BaseFits h.roots) fits [] h.bases shape.bases

-- a face that no record reveals is a base face
revealed_after-none : (h : Hierarchy) (n f : ℕ) → f < first_face h n → revealed_after h n f ≡ None →
    f < length h.bases
unfolding first_face revealed_after
revealed_after-none h zero f l e = l
revealed_after-none h (suc n) f l e =
    elim (cases_Bool (leb (first_face h n) f)) [
      | inl a ↦ absurd (none-some n (sym e ∙ cond-true _ _ _ a))
      | inr a ↦ revealed_after-none h n f (leb-false _ _ a) (sym (cond-false _ _ _ a) ∙ e)
    ]

pub base_corners : (h : Hierarchy) → HasShape h → (f : ℕ) → f < face_count h
    → revealed_by h f ≡ None →
    BaseFits h.roots (corners_of h f)
unfolding corners_of
base_corners h shape f l e =
    let base = revealed_after-none h (record_count h) f l e in
    rw e (All-get_or (BaseFits h.roots) h.bases f no_face_corners base (bases_fit h shape))

-- The left face of record k, and its right face.

pub left_fits : (h : Hierarchy) → HasShape h → (k : ℕ) → k < record_count h → (n : NewFace) →
    (record_at h k).left ≡ Some n →
    NewFaceFits h k (t_of h k) (u_of h k) n.face (word_of n.first) (word_of n.second)
    × (first_face h k < 1048576)
unfolding s_of
left_fits h shape k l n is =
    let r = record_at h k in
    let nodes = shape_of_nodes h shape in
    let fits : new_face_fault (with_record (cut h k) (bare r)) true n.face (word_of n.first)
    (word_of n.second) ≡ None =
    rw is at (record_fits h shape k l).left in
    let both = new_face_fits h nodes k l (bare r) refl refl true n.face (word_of n.first)
    (word_of n.second) fits in
    (both.0, omega (arith, both.1, coming_face_count h nodes k l (bare r) refl refl))

pub right_fits : (h : Hierarchy) → HasShape h → (k : ℕ) → k < record_count h → (n : NewFace) →
    (record_at h k).right ≡ Some n →
    NewFaceFits h k (u_of h k) (t_of h k) n.face (word_of n.first) (word_of n.second)
    × (first_face h k + one_if (is_some (record_at h k).left) < 1048576)
unfolding s_of
right_fits h shape k l n is =
    let r = record_at h k in
    let nodes = shape_of_nodes h shape in
    let fits : new_face_fault (with_record (cut h k) (left_only r)) false n.face (word_of n.first)
    (word_of n.second) ≡ None =
    rw is at (record_fits h shape k l).right in
    let both = new_face_fits h nodes k l (left_only r) refl refl false n.face (word_of n.first)
    (word_of n.second) fits in
    (both.0, omega (arith, both.1, coming_face_count h nodes k l (left_only r) refl refl))

left_is_there : (h : Hierarchy) (k f : ℕ) → is_left h k f ≡ true →
    (is_some (record_at h k).left ≡ true) × (f ≡ first_face h k)
unfolding is_left
left_is_there h k f e = let p =
    and_parts (is_some (record_at h k).left) (eqb f (first_face h k)) e in
    (p.0, eqb-true f (first_face h k) p.1)

pub left_from : (h : Hierarchy) (k f : ℕ) → is_some (record_at h k).left ≡ true → f ≡ first_face h k
    →
    is_left h k f ≡ true
unfolding is_left
left_from h k f there is =
    and_from (is_some (record_at h k).left) (eqb f (first_face h k)) there
    (eq-eqb f (first_face h k) is)

pub left_corners : (h : Hierarchy) (f k : ℕ) (n : NewFace) → revealed_by h f ≡ Some k
    → is_left h k f ≡ true →
    (record_at h k).left ≡ Some n → corners_of h f ≡ n.face
unfolding corners_of
left_corners h f k n own left is = grind (arith, common_steps)

pub right_corners : (h : Hierarchy) (f k : ℕ) (n : NewFace) → revealed_by h f ≡ Some k
    → is_left h k f ≡ false →
    (record_at h k).right ≡ Some n → corners_of h f ≡ n.face
unfolding corners_of
right_corners h f k n own left is = grind (arith, common_steps)

-- the corners of a face that record k reveals
pub new_corners : (h : Hierarchy) → HasShape h → (f k : ℕ) → f < face_count h
    → revealed_by h f ≡ Some k →
    CornersFit h (cond (is_left h k f) (t_of h k) (u_of h k))
    (cond (is_left h k f) (u_of h k) (t_of h k)) (s_of h k) (corners_of h f)
new_corners h shape f k l own =
    let known = (revealed-parts h f k l own).0 in
    elim (cases_Bool (is_left h k f)) [
      | inl left ↦
          let (n, is) = some_from (record_at h k).left (left_is_there h k f left).0 in
          rw (left, left_corners h f k n own left is) (left_fits h shape k known n is).0.corners
      | inr not_left ↦
          let is_right : is_some (record_at h k).right ≡ true =
          grind (arith, common_steps, left_from, which_face) in
          let (n, is) = some_from (record_at h k).right is_right in
          rw (not_left, right_corners h f k n own not_left is)
          (right_fits h shape k known n is).0.corners
    ]

pub leaves_at : (h : Hierarchy) → HasShape h → (f : ℕ) → f < face_count h → (r : Option ℕ)
    → revealed_by h f ≡ r →
    ((corners_of h f).a < leaf_count h) × ((corners_of h f).b < leaf_count h)
    × ((corners_of h f).c < leaf_count h)
leaves_at h shape f l None e = let fits = base_corners h shape f l e in (fits.a, fits.b, fits.c)
leaves_at h shape f l (Some k) e = let fits =
    new_corners h shape f k l e in (fits.a, fits.b, fits.c)

-- the faces have the shape that the rules ask for
pub shape_of_faces : (h : Hierarchy) → HasShape h → HasFaceShape h
unfolding inner_of
shape_of_faces h shape =
    let nodes = shape_of_nodes h shape in
    record {
      leaves = λ e l.
          let f = face_of e in
          let fits = leaves_at h shape f (omega arith) (revealed_by h f) refl in
          elim (which_corner e) [
            | inl is ↦ (rw (is, (corner_a h f).0) fits.0)
            | inr later ↦ elim later [
              | inl is ↦ (rw (is, (corner_b h f).0) fits.1)
              | inr is ↦ (rw (is, (corner_c h f).0) fits.2)
            ]
          ];
      base = λ e l none.
          let f = face_of e in
          let fits = base_corners h shape f (omega arith) none in
          let a = corner_a h f in
          let b = corner_b h f in
          let c = corner_c h f in
          elim (which_corner e) [
            | inl is ↦ (rw (is, a.1, a.0, b.0) fits.ab)
            | inr later ↦ elim later [
              | inl is ↦ (rw (is, b.1, b.0, c.0) fits.bc)
              | inr is ↦ (rw (is, c.1, c.0, a.0) fits.ca)
            ]
          ];
      left = λ f k l own left.
          let known = (revealed-parts h f k l own).0 in
          let fits = rw left at (new_corners h shape f k l own) in
          let inside : (x : ℕ) → Holds h (t_of h k) x → Holds h (s_of h k) x =
          λ x e. holds-s_from_t h nodes k x known e in
          rw left (side_along h (t_of h k) (u_of h k) (s_of h k) f inside
          (λ x e g. not_both h nodes k x known e g) fits);
      right = λ f k l own left.
          let known = (revealed-parts h f k l own).0 in
          let fits = rw left at (new_corners h shape f k l own) in
          let inside : (x : ℕ) → Holds h (u_of h k) x → Holds h (s_of h k) x =
          λ x e. holds-s_from_u h nodes k x known e in
          rw left (side_along h (u_of h k) (t_of h k) (s_of h k) f inside
          (λ x e g. not_both h nodes k x known g e) fits);
    }

pub shape_is_forest : (h : Hierarchy) → HasShape h → IsForest h
shape_is_forest h shape = record { forest = shape_of_nodes h shape; faces = shape_of_faces h shape }
