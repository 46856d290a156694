-- Where the first face of a record is.
use Rattle.std.proofs.Common.{◌≡◌, ℕ, zero, suc, ◌+◌, ◌*◌, ◌-◌, ◌/◌, ◌^◌, ◌<◌, ◌≤◌, nat_lt, true}
use Rattle.std.proofs.Common.{Some, is_some, length, inl, inr, sym, ap, ◌∙◌, arith}
use Rattle.std.proofs.Math.Nat.{pow-suc}
use Rattle.std.proofs.lemmas.Bool.{cases_lt, lt-ltb, le-ltb}
use Rattle.pm_base.specs.Counts.{one_if}
use Rattle.pm_base.proofs.Counts.{one_if-le}
use Rattle.pm_forest.specs.declared.parts.Record.{Record}
use Rattle.pm_forest.specs.Forest.{Hierarchy, record_at, record_count}
use Rattle.pm_forest.specs.Faces.{first_face, face_count, revealed_by}
use Rattle.pm_forest.proofs.FaceNumbers.{first_face-mono, revealed-parts}

module _ (h : Hierarchy) where
  pub base_before : (f k : ℕ) → f < length h.bases → nat_lt f (first_face h k) ≡ true
  unfolding first_face
  base_before f k l = let m = first_face-mono h 0 k (omega arith) in lt-ltb f (first_face h k)
      (omega arith)

  pub face_before : (f j k : ℕ) → f < face_count h → revealed_by h f ≡ Some j
      → nat_lt j k ≡ nat_lt f (first_face h k)
  face_before f j k l is =
      let (below, from, until) = revealed-parts h f j l is in
      elim (cases_lt j k) [
        | inl less ↦ (let m = first_face-mono h (suc j) k (omega arith) in lt-ltb j k less
            ∙ sym (lt-ltb f (first_face h k) (omega arith)))
        | inr more ↦ (let m = first_face-mono h k j (omega arith) in le-ltb j k more
            ∙ sym (le-ltb f (first_face h k) (omega arith)))
      ]

  -- Each record has two faces at most.
  few_next : (k : ℕ) → first_face h (suc k) ≤ first_face h k + 2
  unfolding first_face
  few_next k =
      let x = one_if-le (is_some (record_at h k).left) in
      let y = one_if-le (is_some (record_at h k).right) in
      omega arith

  pub first_high : (k : ℕ) → first_face h k ≤ length h.bases + 2 * k
  unfolding first_face
  first_high zero = omega arith
  first_high (suc k) = let r = first_high k in let n = few_next k in omega arith

  -- The faces of a record are those from its first one to the next record's.
  pub faces_after : (k : ℕ) → first_face h (suc k)
      ≡ first_face h k + (one_if (is_some (record_at h k).left) + one_if
      (is_some (record_at h k).right))
  unfolding first_face
  faces_after k = omega arith

  pub faces_there : (k : ℕ) → k < record_count h
      → first_face h k + (one_if (is_some (record_at h k).left) + one_if
      (is_some (record_at h k).right)) ≤ face_count h
  faces_there k l = let m = first_face-mono h (suc k) (record_count h) l in omega
      (arith, faces_after k)

  few_more : (k d : ℕ) → first_face h (k + d) ≤ first_face h k + 2 * d
  few_more k zero = let e : k + 0 ≡ k = omega arith in rw e (omega arith)
  few_more k (suc d) =
      let e : k + suc d ≡ suc (k + d) = omega arith in
      let r = few_more k d in
      let n = few_next (k + d) in
      rw e (omega arith)

  pub first_low : (k : ℕ) → k ≤ record_count h
      → face_count h - 2 * (record_count h - k) ≤ first_face h k
  first_low k l =
      let e : k + (record_count h - k) ≡ record_count h = omega arith in
      let m = few_more k (record_count h - k) in
      let at : first_face h (k + (record_count h - k)) ≡ face_count h = ap (first_face h) e in
      omega arith

-- The faces of a record, from what was read of it.
pub face_range : (h x : Hierarchy) (k first new : ℕ) (r : Record) → x ≡ h → first ≡ first_face x k
    → r ≡ record_at x k
    → new ≡ one_if (is_some r.left) + one_if (is_some r.right) → (first ≡ first_face h k)
    × (first + new ≡ first_face h (suc k))
face_range h x k first new r same is at count =
    let here : first ≡ first_face h k = is ∙ ap (λ y. first_face y k) same in
    let read : r ≡ record_at h k = at ∙ ap (λ y. record_at y k) same in
    let few : new ≡ one_if (is_some (record_at h k).left) + one_if
    (is_some (record_at h k).right) = count
    ∙ ap (λ (s : Record). one_if (is_some s.left) + one_if (is_some s.right)) read in
    (here, omega (arith, faces_after h k))

-- Halving
pub halved_low : (n low high : ℕ) → high - low < 2 ^ (suc n)
    → high - (low + (high - low) / 2 + 1) < 2 ^ n
halved_low n low high l = let two : 2 ^ (suc n) ≡ 2 ^ n * 2 = pow-suc 2 n in omega arith

pub halved_high : (n low high : ℕ) → low < high → high - low < 2 ^ (suc n)
    → (low + (high - low) / 2) - low < 2 ^ n
halved_high n low high l m = let two : 2 ^ (suc n) ≡ 2 ^ n * 2 = pow-suc 2 n in omega arith

-- A search that has some numbers left has a step left, and then half of them.
pub halves : (n low high : ℕ) → low < high → high - low < 2 ^ n → (m : ℕ) × (n ≡ m + 1)
    × (high - (low + (high - low) / 2 + 1) < 2 ^ m) × ((low + (high - low) / 2) - low < 2 ^ m)
halves zero low high l few = absurd (omega (arith, few))
halves (suc m) low high l few = (
  m,
  omega arith,
  halved_low m low high few,
  halved_high m low high
      l few,
)
