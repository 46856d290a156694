-- The table of the first faces of the records.
use Rattle.std.proofs.Common.{◌≡◌, ℕ, suc, ◌+◌, ◌<◌, ◌≤◌, true, Some, List, [], ◌∷◌, ◌++◌, length}
use Rattle.std.proofs.lemmas.Grind.{common_steps}
use Rattle.std.proofs.Common.{is_some, slice_index_or, inl, inr, refl, ap, ◌∙◌, subst, arith}
use Rattle.std.proofs.Common.{length-append}
use Rattle.std.proofs.Math.ListN.{get_or-append}
use Rattle.std.proofs.Math.Seq.{get_or-append_seam}
use Rattle.std.proofs.lemmas.Bool.{cases_lt}
use Rattle.pm_base.specs.Counts.{one_if}
use Rattle.pm_forest.specs.Forest.{Hierarchy, record_at, record_count}
use Rattle.pm_forest.specs.Faces.{first_face, face_count, revealed_by}
use Rattle.pm_forest.specs.Rules.{HasShape}
use Rattle.pm_forest.proofs.FaceNumbers.{first_face-mono, revealed-from}
use Rattle.pm_forest.proofs.FaceLimits.{first_face-most}
use Rattle.pm_sides.specs.Tables.{AreFirstFaces}

pub firsts_begin : (h : Hierarchy) → length h.bases ≡ first_face h 0
unfolding first_face
firsts_begin h = refl

pub next_first : (h : Hierarchy) (k : ℕ)
    → first_face h (k + 1)
    ≡ first_face h
    k + (one_if (is_some (record_at h k).left) + one_if (is_some (record_at h k).right))
unfolding first_face
next_first h k = let at : k + 1 ≡ suc k = omega arith in rw at (omega arith)

pub next_few : (h : Hierarchy) → HasShape h → (k : ℕ) → k < record_count h →
    first_face h
    k + (one_if (is_some (record_at h k).left) + one_if (is_some (record_at h k).right))
    ≤ 1048576
next_few h shape k l = let most = first_face-most h shape (k + 1) (omega arith) in
    omega (arith, next_first h k)

-- A record with two faces has the numbers of both below the number of faces.
pub both_there : (h : Hierarchy) (k : ℕ) → k < record_count h → is_some (record_at h k).left ≡ true
    → is_some (record_at h k).right ≡ true →
    first_face h k + 1 < face_count h
both_there h k l left right =
    let more = first_face-mono h (k + 1) (record_count h) (omega arith) in
    let two : one_if (is_some (record_at h k).left) + one_if (is_some (record_at h k).right) ≡ 2 =
    rw (left, right) refl in
    omega (arith, next_first h k)

-- One more entry.
pub firsts_none : (h : Hierarchy) → AreFirstFaces h 0 []
firsts_none h = record { len = refl; each = λ k l. absurd (omega arith) }

pub firsts_go_on : (h : Hierarchy) (k x : ℕ) (xs : List ℕ) → AreFirstFaces h k xs
    → x ≡ first_face h k → AreFirstFaces h (k + 1) (xs ++ x ∷ [])
firsts_go_on h k x xs so_far is = record {
  len = length-append xs (x ∷ []) ∙ ap (λ n. n + 1) so_far.len;
  each = λ j l. elim (cases_lt j k) [
    | inl a ↦ get_or-append xs (x ∷ []) 0 j (omega (arith, so_far.len)) ∙ so_far.each j a
    | inr a ↦ grind (arith, common_steps, get_or-append_seam, slice_index_or)
  ];
}

pub first_few : (h : Hierarchy) → HasShape h → (k : ℕ) → k < record_count h
    → first_face h k ≤ 1048576
first_few h shape k l = first_face-most h shape k (omega arith)

pub left_there : (h : Hierarchy) (k : ℕ) → k < record_count h → is_some (record_at h k).left ≡ true
    → first_face h k < face_count h
left_there h k l left =
    let more = first_face-mono h (k + 1) (record_count h) (omega arith) in
    let one : one_if (is_some (record_at h k).left) ≡ 1 = ap one_if left in
    omega (arith, next_first h k)

pub right_there : (h : Hierarchy) (k : ℕ) → k < record_count h
    → is_some (record_at h k).right ≡ true
    → first_face h k + one_if (is_some (record_at h k).left) < face_count h
right_there h k l right =
    let more = first_face-mono h (k + 1) (record_count h) (omega arith) in
    let one : one_if (is_some (record_at h k).right) ≡ 1 = ap one_if right in
    omega (arith, next_first h k)

pub after_there : (h : Hierarchy) (k : ℕ) → k < record_count h → first_face h (k + 1) ≤ face_count h
after_there h k l = first_face-mono h (k + 1) (record_count h) (omega arith)

pub after_last : (h : Hierarchy) (k : ℕ) → k < record_count h → record_count h ≤ k + 1
    → face_count h ≡ first_face h (k + 1)
after_last h k l last = let is : record_count h ≡ k + 1 = omega arith in ap (first_face h) is

-- They are faces of the record.
pub left_own : (h : Hierarchy) (k : ℕ) → k < record_count h → is_some (record_at h k).left ≡ true
    → revealed_by h (first_face h k) ≡ Some k
left_own h k l left =
    let at : k + 1 ≡ suc k = omega arith in
    let one : one_if (is_some (record_at h k).left) ≡ 1 = ap one_if left in
    revealed-from h (first_face h k) k l (omega arith)
    (omega (arith, next_first h k, ap (first_face h) at))

pub right_own : (h : Hierarchy) (k : ℕ) → k < record_count h → is_some (record_at h k).right ≡ true
    → revealed_by h (first_face h k + one_if (is_some (record_at h k).left)) ≡ Some k
right_own h k l right =
    let at : k + 1 ≡ suc k = omega arith in
    let one : one_if (is_some (record_at h k).right) ≡ 1 = ap one_if right in
    revealed-from h (first_face h k + one_if (is_some (record_at h k).left)) k l (omega arith)
    (omega (arith, next_first h k, ap (first_face h) at))

-- The face after the first one is the record's, where it has two.
pub second_own : (h : Hierarchy) (k : ℕ) → k < record_count h → is_some (record_at h k).left ≡ true
    → is_some (record_at h k).right ≡ true →
    revealed_by h (first_face h k + 1) ≡ Some k
second_own h k l left right = let one : one_if (is_some (record_at h k).left) ≡ 1 =
    ap one_if left in
    subst (λ n. revealed_by h (first_face h k + n) ≡ Some k) one (right_own h k l right)
