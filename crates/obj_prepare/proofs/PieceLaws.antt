-- Faces over joined vertices, those that stay, and those over split vertices.
use Rattle.std.proofs.Common.{◌≡◌, ◌≢◌, ℕ, zero, suc, ◌+◌, ◌*◌, ◌/◌, ◌%◌, ◌<◌, ◌≤◌, true}
use Rattle.std.proofs.lemmas.Grind.{common_steps}
use Rattle.std.proofs.Common.{List, [], ◌∷◌, ◌++◌, length, sym, ◌∙◌, ap, subst, inl}
use Rattle.std.proofs.Common.{inr, arith}
use Rattle.std.specs.Prelude.{slice_index_or}
use Rattle.std.specs.List.{All}
use Rattle.std.proofs.lemmas.Bool.{cases_Bool, cond-true, cond-false, or_cases, or_left, or_right}
use Rattle.std.proofs.lemmas.Bool.{eqb-true}
use Rattle.std.proofs.lemmas.List.{length-map, length-append}
use Rattle.std.proofs.lemmas.List.Elements.{All-nil, All-cons, All-head, All-tail, All-append}
use Rattle.std.proofs.lemmas.List.Elements.{All-get_or, All-from_get_or}
use Rattle.pm_base.specs.declared.mesh.Corners.{Corners}
use Rattle.pm_base.specs.Place.{Place}
use Rattle.pm_base.specs.Meshes.{IsFace, IsWellFormed}
use Rattle.pm_base.specs.Sides.{Net, net_of, side_count, corner_in, no_corners}
use Rattle.pm_base.proofs.Sides.{next_cases}
use Rattle.pm_base.proofs.NetLaws.{face_at, first_side, second_side, third_side}
use Rattle.pm_fans.specs.Splits.{AllStand, IsCuttable}
use Rattle.pm_fans.specs.Orders.{IsSplitMesh}
use Rattle.pm_fans.specs.Kept.{is_corner, is_kept_after, kept_after, kept_of}
use Rattle.pm_fans.specs.Laws.{KeptAreFit}
use Rattle.pm_fans.proofs.Turned.{corner_a, corner_b, corner_c}
use Rattle.obj_prepare.specs.Named.{is_some_corner, AreVerticesBelow, IsWithinMesh}
use Rattle.obj_prepare.specs.Joining.{AreJoined, renamed, joined_faces}

-- A vertex that a face names is one of the vertices.

corner_low : (n : ℕ) (f : Corners) (v : ℕ) → AreVerticesBelow n f → is_corner f v ≡ true → v < n
corner_low n f v are is = grind (arith, common_steps, eqb-true, or_cases)

pub named_low : (n : ℕ) (fs : List Corners) (v : ℕ) → All (AreVerticesBelow n) fs
    → is_some_corner fs v ≡ true → v < n
named_low n [] v are is = absurd cc
named_low n (f ∷ fs) v are is =
    elim (cases_Bool (is_corner f v)) [
      | inl t ↦ corner_low n f v (All-head (AreVerticesBelow n) f fs are) t
      | inr none ↦ named_low n fs v (All-tail (AreVerticesBelow n) f fs are) (rw none at is)
    ]

-- Each corner of a face is named.

pub record AreNamed (faces : List Corners) (f : Corners) : Type 0 where
  pub a : is_some_corner faces f.a ≡ true
  pub b : is_some_corner faces f.b ≡ true
  pub c : is_some_corner faces f.c ≡ true

more_named : (g f : Corners) (fs : List Corners) → AreNamed fs f → AreNamed (g ∷ fs) f
more_named g f fs are = grind (arith, common_steps, or_right)

first_named : (f : Corners) (fs : List Corners) → AreNamed (f ∷ fs) f
first_named f fs = grind (arith, common_steps, corner_a, corner_b, corner_c, or_left)

pub corners_named : (fs : List Corners) (i : ℕ) → i < length fs → AreNamed fs (face_at fs i)
corners_named [] i l = absurd (omega arith)
corners_named (f ∷ fs) zero l = first_named f fs
corners_named (f ∷ fs) (suc i) l = more_named f (face_at fs i) fs (corners_named fs i (omega arith))

-- The faces over joined vertices.

joined_low : (places : List Place) (faces : List Corners) (names : List ℕ)
    → IsWithinMesh (length places) faces → AreJoined places faces names → (v : ℕ)
    → is_some_corner faces v ≡ true → slice_index_or names v 0 < length places
joined_low places faces names within are v is =
    named_low (length places) faces _ within.corners
    (are.each v (named_low (length places) faces v within.corners is) is).named

all_renamed : (places : List Place) (faces fs : List Corners) (names : List ℕ)
    → IsWithinMesh (length places) faces → AreJoined places faces names → All (AreNamed faces) fs
    → All (AreVerticesBelow (length places)) (joined_faces names fs)
all_renamed places faces [] names within are all = All-nil (AreVerticesBelow (length places))
all_renamed places faces (f ∷ fs) names within are all =
    let here = All-head (AreNamed faces) f fs all in
    let face : AreVerticesBelow (length places) (renamed names f) =
    grind (arith, common_steps, joined_low) in
    All-cons (AreVerticesBelow (length places)) (renamed names f) (joined_faces names fs) face
    (all_renamed places faces fs names within are (All-tail (AreNamed faces) f fs all))

pub renamed_within : (places : List Place) (faces : List Corners) (names : List ℕ)
    → IsWithinMesh (length places) faces → AreJoined places faces names
    → IsWithinMesh (length places) (joined_faces names faces)
renamed_within places faces names within are = record {
  vertices_few = within.vertices_few;
  faces_few = rw (length-map faces (renamed names)) within.faces_few;
  corners = all_renamed places faces faces names within are
      (All-from_get_or (AreNamed faces) faces no_corners (λ i l. corners_named faces i l));
}

-- Faces that stay are among the faces.

pub kept_after_all : (P : Corners → Type 0) (before fs : List Corners) → All P before → All P fs
    → All P (kept_after before fs)
kept_after_all P before [] all more = all
kept_after_all P before (f ∷ fs) all more =
    let rest = All-tail P f fs more in
    elim (cases_Bool (is_kept_after before f)) [
      | inl t ↦ subst (All P) (sym (cond-true _ _ _ t))
          (kept_after_all P (before ++ f ∷ []) fs
          (All-append P before (f ∷ []) all (All-cons P f [] (All-head P f fs more) (All-nil P)))
          rest)
      | inr n ↦ subst (All P) (sym (cond-false _ _ _ n)) (kept_after_all P before fs all rest)
    ]

kept_after_length : (before fs : List Corners)
    → length (kept_after before fs) ≤ length before + length fs
kept_after_length before [] = omega arith
kept_after_length before (f ∷ fs) =
    grind (
      arith,
      common_steps,
      cond-false,
      cond-true,
      length-append,
      kept_after_length (before ++ f ∷ []) fs,
      kept_after_length before fs,
    )

pub kept_within : (n : ℕ) (fs : List Corners) → IsWithinMesh n fs → IsWithinMesh n (kept_of fs)
unfolding kept_of
kept_within n fs within = record {
  vertices_few = within.vertices_few;
  faces_few = omega (arith, kept_after_length [] fs, within.faces_few);
  corners = kept_after_all (AreVerticesBelow n) [] fs (All-nil (AreVerticesBelow n)) within.corners;
}

-- What holds of all three corners holds of each.
pub corner_in_has : (P : ℕ → Type 0) (f : Corners) (i : ℕ) → P f.a → P f.b → P f.c
    → P (corner_in f i)
corner_in_has P f i a b c = grind (arith, common_steps, cond-false, cond-true)

pub side_low : (n : ℕ) (fs : List Corners) → IsWithinMesh n fs → (e : ℕ)
    → e < side_count (net_of fs)
    → (net_of fs).from e < n
side_low n fs within e l =
    let are = All-get_or (AreVerticesBelow n) fs (e / 3) no_corners (omega arith) within.corners in
    corner_in_has (λ v. v < n) (face_at fs (e / 3)) (e % 3) are.a are.b are.c

pub kept_cuttable : KeptAreFit → (n : ℕ) (fs : List Corners) → IsWithinMesh n fs
    → IsCuttable (net_of (kept_of fs))
kept_cuttable fit n fs within =
    let stay = kept_within n fs within in
    record {
      short = stay.faces_few;
      stand = (fit fs).0;
      low = λ e l. omega (arith, side_low n (kept_of fs) stay e l, within.vertices_few);
    }

-- Split vertices.

pub old_low : (n : ℕ) (fs split : List Corners) (old : List ℕ) → IsWithinMesh n fs
    → IsSplitMesh (net_of fs) split old → All (λ v. v < n) old
old_low n fs split old within is = All-from_get_or (λ v. v < n) old 0 (λ v l.
    let (e, stands, at) = is.used v l in
    let low : e < side_count (net_of fs) = subst (λ k. e < 3 * k) is.split.faces stands.is_side in
    subst (λ k. k < n) (sym (is.back e low) ∙ ap (λ k. slice_index_or old k 0) at)
    (side_low n fs within e low))

-- Two corners of a new face that are one were one before.
apart_new : (m : Net) (split : List Corners) (old : List ℕ) → IsSplitMesh m split old → (e g : ℕ)
    → e < side_count m → g < side_count m → m.from e ≢ m.from g
    → (net_of split).from e ≢ (net_of split).from g
apart_new m split old is e g el gl differ same =
    differ (sym (is.back e el) ∙ ap (λ k. slice_index_or old k 0) same ∙ is.back g gl)

new_face : (m : Net) (split : List Corners) (old : List ℕ) → AllStand m → IsSplitMesh m split old
    → (f : ℕ) → f < length split → IsFace (length old) (face_at split f)
new_face m split old stand is f l =
    let n : Net = net_of split in
    let same : length split ≡ m.faces = is.split.faces in
    let one : 3 * f < side_count m = omega (arith, same) in
    let two : 3 * f + 1 < side_count m = omega (arith, same) in
    let three : 3 * f + 2 < side_count m = omega (arith, same) in
    let first = first_side split f in
    let second = second_side split f in
    let last = third_side split f in
    let i = next_cases (3 * f) in
    let j = next_cases (3 * f + 1) in
    let k = next_cases (3 * f + 2) in
    let ab = apart_new m split old is (3 * f) (3 * f + 1) one two
    (λ e. (stand (3 * f) one).first (e ∙ ap m.from (omega arith))) in
    let bc = apart_new m split old is (3 * f + 1) (3 * f + 2) two three
    (λ e. (stand (3 * f + 1) two).first (e ∙ ap m.from (omega arith))) in
    let ca = apart_new m split old is (3 * f + 2) (3 * f) three one
    (λ e. (stand (3 * f + 2) three).first (e ∙ ap m.from (omega arith))) in
    record {
      a = subst (λ v. v < length old) first.0 (is.within (3 * f) one);
      b = subst (λ v. v < length old) second.0 (is.within (3 * f + 1) two);
      c = subst (λ v. v < length old) last.0 (is.within (3 * f + 2) three);
      ab = λ e. ab (first.0 ∙ e ∙ sym second.0);
      bc = λ e. bc (second.0 ∙ e ∙ sym last.0);
      ca = λ e. ca (last.0 ∙ e ∙ sym first.0);
    }

pub split_formed : (m : Net) (split : List Corners) (old : List ℕ) (points : List Place)
    → m.faces ≤ 1048576 → AllStand m → IsSplitMesh m split old → length points ≡ length old
    → length old ≤ 1048576 → IsWellFormed (record { points = points; faces = split })
split_formed m split old points short stand is len few = record {
  points = omega (arith, len, few);
  faces = omega (arith, is.split.faces, short);
  corners = rw len (All-from_get_or (IsFace (length old)) split no_corners
      (λ f l. new_face m split old stand is f l));
}
