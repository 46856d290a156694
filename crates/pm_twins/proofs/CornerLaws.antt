-- The corners of a face, and the sides that run from them.
use Rattle.std.proofs.Common.{◌≡◌, ℕ, ◌+◌, ◌*◌, ◌%◌, ◌<◌, List, [], ◌∷◌, length}
use Rattle.std.proofs.Common.{slice_index_or, inl, inr, sym, ap, ◌∙◌, arith}
use Rattle.std.proofs.lemmas.Bool.{cases_eq}
use Rattle.pm_base.specs.declared.mesh.Corners.{Corners}
use Rattle.pm_base.specs.Sides.{face_of, next, prev, to, third, net_of, side_count}
use Rattle.pm_base.proofs.Sides.{next_cases}
use Rattle.pm_base.proofs.NetLaws.{face_at, from-corner, first_side, second_side, third_side}

-- The corners in the order in which the sides of a face run to them, or come before them.
pub to_turned : (fs : List Corners) (e f : ℕ) → f ≡ face_of e →
    slice_index_or ((face_at fs f).b ∷ (face_at fs f).c ∷ (face_at fs f).a ∷ []) (e % 3) 0
    ≡ to (net_of fs) e
to_turned fs e f is =
    let n = next_cases e in
    let at = λ (k : ℕ). slice_index_or
    ((face_at fs f).b ∷ (face_at fs f).c ∷ (face_at fs f).a ∷ []) k 0 in
    elim (cases_eq (e % 3) 0) [
      | inl z ↦ ap at z ∙ sym (from-corner fs (next e) f 1 (omega arith) (omega arith))
      | inr n0 ↦ elim (cases_eq (e % 3) 1) [
        | inl z ↦ ap at z ∙ sym (from-corner fs (next e) f 2 (omega arith) (omega arith))
        | inr n1 ↦
            let z : e % 3 ≡ 2 = omega arith in
            ap at z ∙ sym (from-corner fs (next e) f 0 (omega arith) (omega arith))
      ]
    ]

pub third_turned : (fs : List Corners) (e f : ℕ) → f ≡ face_of e →
    slice_index_or ((face_at fs f).c ∷ (face_at fs f).a ∷ (face_at fs f).b ∷ []) (e % 3) 0
    ≡ third (net_of fs) e
third_turned fs e f is =
    let n = next_cases e in
    let p = next_cases (next e) in
    let at = λ (k : ℕ). slice_index_or
    ((face_at fs f).c ∷ (face_at fs f).a ∷ (face_at fs f).b ∷ []) k 0 in
    elim (cases_eq (e % 3) 0) [
      | inl z ↦ ap at z ∙ sym (from-corner fs (prev e) f 2 (omega arith) (omega arith))
      | inr n0 ↦ elim (cases_eq (e % 3) 1) [
        | inl z ↦ ap at z ∙ sym (from-corner fs (prev e) f 0 (omega arith) (omega arith))
        | inr n1 ↦
            let z : e % 3 ≡ 2 = omega arith in
            ap at z ∙ sym (from-corner fs (prev e) f 1 (omega arith) (omega arith))
      ]
    ]

-- Where each side runs from a vertex below n, so does each corner of a face stand there.
pub corners_within : (fs : List Corners) {n : ℕ}
    → ((e : ℕ) → e < side_count (net_of fs) → (net_of fs).from e < n) → (f : ℕ) → f < length fs
    → ((face_at fs f).a < n) × ((face_at fs f).b < n) × ((face_at fs f).c < n)
corners_within fs within f l =
    let a = within (3 * f) (omega (arith, l)) in
    let b = within (3 * f + 1) (omega (arith, l)) in
    let c = within (3 * f + 2) (omega (arith, l)) in
    let at_a = (first_side fs f).0 in
    let at_b = (second_side fs f).0 in
    let at_c = (third_side fs f).0 in
    (omega (arith, a, at_a), omega (arith, b, at_b), omega (arith, c, at_c))
