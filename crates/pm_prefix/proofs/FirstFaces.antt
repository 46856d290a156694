-- The faces of the first records: they keep their numbers, and have the new leaves at their
-- corners.
use Rattle.std.proofs.Common.{◌≡◌, ℕ, zero, suc, ◌+◌, ◌*◌, ◌<◌, ◌≤◌, eqb, Bool, true, false}
use Rattle.std.proofs.Common.{cond, ◌&&◌, ◌⊎◌, Option, None, Some, is_some, inl, inr}
use Rattle.std.proofs.Common.{refl, sym, ap, ◌∙◌, arith}
use Rattle.std.proofs.lemmas.Bool.{cases_eq, cases_lt, eq-eqb, ne_eqb, lt-leb, cond-false}
use Rattle.std.specs.Option.{unwrap_or}
use Rattle.pm_base.specs.Counts.{one_if}
use Rattle.pm_base.specs.Sides.{face_of}
use Rattle.pm_forest.specs.declared.parts.Face.{Face}
use Rattle.pm_forest.specs.declared.parts.NewFace.{NewFace}
use Rattle.pm_forest.specs.Forest.{Hierarchy, record_at, record_count}
use Rattle.pm_forest.specs.Faces.{no_face_corners, no_face, first_face, face_count, revealed_after}
use Rattle.pm_forest.specs.Faces.{revealed_by, is_left, corners_told_by, corners_of}
use Rattle.pm_forest.specs.Faces.{from_leaf}
use Rattle.pm_forest.proofs.Prefix.{RevealsAlike, first_face-alike, revealed_after-alike}
use Rattle.pm_forest.proofs.FaceNumbers.{first_face-mono, revealed-parts, which_face}
use Rattle.pm_forest.proofs.HierarchyLaws.{revealed-base}
use Rattle.pm_prefix.specs.Prefix.{first_records, leaf_in, face_in, new_face_in, record_in, base_in}
use Rattle.pm_prefix.proofs.Parts.{base_count-first, record_count-first, base_at-first}
use Rattle.pm_prefix.proofs.Parts.{record_at-first}

-- a new face is there where the old one is
new_face-there : (h : Hierarchy) (n f : ℕ) (o : Option NewFace)
    → is_some (new_face_in h n f o) ≡ is_some o
new_face-there h n f None = refl
new_face-there h n f (Some x) = refl

-- of the two faces of a record, the one with number f, where the left one has the number q
abbrev face_at : Option NewFace → Option NewFace → ℕ → ℕ → Face
face_at a b q f =
    (cond (is_some a && eqb f q) (unwrap_or a no_face) (unwrap_or b no_face)).face

told_face : (h : Hierarchy) (n q f : ℕ) (a b : Option NewFace)
    → ((is_some a ≡ true) × (f ≡ q)) ⊎ ((is_some b ≡ true) × (f ≡ q + one_if (is_some a))) →
    face_at (new_face_in h n q a) (new_face_in h n (q + one_if (is_some a)) b) q f
    ≡ face_in h n f (face_at a b q f)
told_face h n q f None None way = elim way [ inl p ↦ absurd cc | inr p ↦ absurd cc ]
told_face h n q f None (Some y) way = elim way [
  | inl p ↦ absurd cc
  | inr p ↦ (let is : q + 0 ≡ f = omega (arith, p.1) in rw is refl)
]
told_face h n q f (Some x) None way = elim way [
  | inl p ↦ (let is : q ≡ f = sym p.1 in rw (face_at, eq-eqb f q p.1, is) refl)
  | inr p ↦ absurd cc
]
told_face h n q f (Some x) (Some y) way = elim way [
  | inl p ↦ (let is : q ≡ f = sym p.1 in rw (face_at, eq-eqb f q p.1, is) refl)
  | inr p ↦
      let is : q + 1 ≡ f = omega (arith, p.1) in
      rw (face_at, ne_eqb f q (omega (arith, p.1)), is) refl
]

-- one of three numbers, each moved
moved_corner : (g : ℕ → ℕ) (p q : Bool) (a b c : ℕ)
    → cond p (g a) (cond q (g b) (g c)) ≡ g (cond p a (cond q b c))
moved_corner g true q a b c = refl
moved_corner g false true a b c = refl
moved_corner g false false a b c = refl

module _ (h : Hierarchy) (n : ℕ) where
  abbrev first : Hierarchy
  first = first_records h n

  pub left-first : (k : ℕ) → k < n
      → is_some (record_at first k).left ≡ is_some (record_at h k).left
  unfolding record_in
  left-first k l =
      ap (λ r. is_some r.left) (record_at-first h n k l)
      ∙ new_face-there h n (first_face h k) (record_at h k).left

  pub right-first : (k : ℕ) → k < n
      → is_some (record_at first k).right ≡ is_some (record_at h k).right
  unfolding record_in
  right-first k l =
      ap (λ r. is_some r.right) (record_at-first h n k l)
      ∙ new_face-there h n (first_face h k + one_if (is_some (record_at h k).left))
      (record_at h k).right

  reveals_alike : (k : ℕ) → k ≤ n → RevealsAlike first h k
  reveals_alike k l = record {
    bases = base_count-first h n;
    left = λ j m. left-first j (omega arith);
    right = λ j m. right-first j (omega arith);
  }

  pub first_face-first : (k : ℕ) → k ≤ n → first_face first k ≡ first_face h k
  first_face-first k l = first_face-alike first h k (reveals_alike k l)

  pub face_count-first : face_count first ≡ first_face h n
  face_count-first =
      ap (first_face first) (record_count-first h n) ∙ first_face-first n (omega arith)

  -- no later record reveals a face of the first ones
  revealed_early : (k f : ℕ) → n ≤ k → f < first_face h n
      → revealed_after h k f ≡ revealed_after h n f
  unfolding revealed_after
  revealed_early zero f l m = let is : n ≡ 0 = omega arith in rw is refl
  revealed_early (suc k) f l m =
      elim (cases_eq n (suc k)) [
        | inl is ↦ (rw is refl)
        | inr not ↦
            let later = first_face-mono h n k (omega arith) in
            cond-false _ _ _ (lt-leb (first_face h k) f (omega arith))
            ∙ revealed_early k f (omega arith) m
      ]

  module _ (l : n ≤ record_count h) where
    pub revealed_by-first : (f : ℕ) → f < first_face h n → revealed_by first f ≡ revealed_by h f
    revealed_by-first f m =
        ap (λ k. revealed_after first k f) (record_count-first h n)
        ∙ revealed_after-alike first h n (reveals_alike n (omega arith)) f
        ∙ sym (revealed_early (record_count h) f l m)

    pub face-lt : (f : ℕ) → f < first_face h n → f < face_count h
    face-lt f m = let more = first_face-mono h n (record_count h) l in omega arith

    told : (f : ℕ) (r : Option ℕ) → f < first_face h n → revealed_by h f ≡ r
        → corners_told_by first f r ≡ face_in h n f (corners_told_by h f r)
    unfolding base_in record_in is_left
    told f None m is =
        let base = (revealed-base h f (face-lt f m)).0 is in
        base_at-first h n f no_face_corners base
    told f (Some k) m is =
        let parts = revealed-parts h f k (face-lt f m) is in
        let k_lt : k < n = elim (cases_lt k n) [
          | inl a ↦ a
          | inr a ↦ (let low = first_face-mono h n k a in absurd (omega arith))
        ] in
        let way = which_face h f k (face-lt f m) is in
        let r = record_at h k in
        let r' = record_in h n k in
        ap (λ q. face_at q.left q.right (first_face first k) f) (record_at-first h n k k_lt)
        ∙ ap (λ q. face_at r'.left r'.right q f) (first_face-first k (omega arith))
        ∙ told_face h n (first_face h k) f r.left r.right way

    pub corners_of-first : (f : ℕ) → f < first_face h n
        → corners_of first f ≡ face_in h n f (corners_of h f)
    unfolding corners_of
    corners_of-first f m =
        ap (corners_told_by first f) (revealed_by-first f m) ∙ told f (revealed_by h f) m refl

    pub from_leaf-first : (e : ℕ) → e < 3 * first_face h n
        → from_leaf first e ≡ leaf_in h n (from_leaf h e)
    unfolding from_leaf
    from_leaf-first e m =
        let f : face_of e < first_face h n = omega arith in
        let k = corners_of h (face_of e) in
        rw (corners_of-first (face_of e) f) (moved_corner (leaf_in h n) _ _ k.a k.b k.c)
