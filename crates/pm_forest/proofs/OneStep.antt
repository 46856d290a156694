-- What one split and one collapse change: a front stays a front, and the leaves below the node of
-- the record move, and no others.
use Rattle.std.proofs.Common.{◌≡◌, ◌≢◌, ℕ, ◌<◌, Bool, true, false, ◌⊎◌, inl, inr, refl, sym, ap}
use Rattle.std.proofs.lemmas.Grind.{common_steps}
use Rattle.std.proofs.Common.{◌∙◌, subst, arith}
use Rattle.std.proofs.lemmas.Bool.{eq-eqb, ne_eqb, cases_eq, cases_Bool, cases_lt, false≢true}
use Rattle.std.proofs.lemmas.Bool.{both_ways}
use Rattle.pm_forest.specs.Forest.{Hierarchy, record_count, leaf_count, s_of, t_of, u_of, holds}
use Rattle.pm_forest.specs.Forest.{Holds, Makes, HasForestShape}
use Rattle.pm_forest.specs.Fronts.{IsFront, IsThere, IsActive, child_of, ancestor_of, with, without}
use Rattle.pm_forest.proofs.Nodes.{makes_once, holds-s_from_t, holds-s_from_u, holds-u_from_s}
use Rattle.pm_forest.proofs.Ancestors.{there-s, active-ancestor, holds-ancestor_of}
use Rattle.pm_forest.proofs.Ancestors.{ancestor_of-unique}

-- A set with one record more, and with one less.

pub with-cases : (T : ℕ → Bool) (k j : ℕ) → with T k j ≡ true → (j ≡ k) ⊎ (T j ≡ true)
with-cases T k j e = elim (cases_eq j k) [ inl is ↦ inl is | inr n ↦ inr (rw (ne_eqb j k n) at e) ]

pub with-same : (T : ℕ → Bool) (k : ℕ) → with T k k ≡ true
with-same T k = rw (eq-eqb k k refl)

pub with-from : (T : ℕ → Bool) (k j : ℕ) → T j ≡ true → with T k j ≡ true
with-from T k j e =
    elim (cases_eq j k) [ inl is ↦ (rw (eq-eqb j k is)) | inr n ↦ (rw (ne_eqb j k n) e) ]

pub without-parts : (T : ℕ → Bool) (k j : ℕ) → without T k j ≡ true → (j ≢ k) × (T j ≡ true)
without-parts T k j e = grind (arith, common_steps, eq-eqb, false≢true, ne_eqb)

pub without-from : (T : ℕ → Bool) (k j : ℕ) → j ≢ k → T j ≡ true → without T k j ≡ true
without-from T k j n e = rw (ne_eqb j k n) e

module _ (h : Hierarchy) (shape : HasForestShape h) (T : ℕ → Bool) (front : IsFront h T) (k : ℕ)
    (l : k < record_count h) where
  module _ (active : IsActive h T (s_of h k)) where
    pub with-front : IsFront h (with T k)
    with-front i j m e makes =
        elim (with-cases T k i e) [
          | inl is ↦ grind (arith, common_steps, makes_once, with-from)
          | inr f ↦ with-from T k j (front i j m f makes)
        ]

    there-with : (v : ℕ) → IsThere h T v → IsThere h (with T k) v
    there-with v there =
        elim there [ inl a ↦ inl a | inr (j, a, b, c) ↦ inr (j, a, with-from T k j b, c) ]

    pub split-elsewhere : (x : ℕ) → x < leaf_count h → holds h (s_of h k) x ≡ false
        → ancestor_of h (with T k) x ≡ ancestor_of h T x
    split-elsewhere x m n =
        let a = active-ancestor h shape T x m in
        let e = holds-ancestor_of h shape T x m in
        ancestor_of-unique h shape (with T k) with-front (ancestor_of h T x) x (
          there-with _ a.0,
          λ i b f q. elim (with-cases T k i f) [
            | inl is ↦ both_ways _ n (subst (λ v. Holds h v x) (sym q ∙ ap (s_of h) is) e)
            | inr g ↦ a.1 i b g q
          ],
        )
        e

    -- A child is active then: its record is split, and the record that splits it isn't.
    child_active : T k ≡ false → (v : ℕ) → Makes h k v → IsActive h (with T k) v
    child_active n v makes = (
      inr (k, l, with-same T k, makes),
      λ i b f q. elim (with-cases T k i f) [
        | inl is ↦ grind (arith, common_steps)
        | inr g ↦ both_ways _ n (front i k b g (subst (Makes h k) (sym q) makes))
      ],
    )

    pub split-under : T k ≡ false → (x : ℕ) → x < leaf_count h → Holds h (s_of h k) x
        → ancestor_of h (with T k) x ≡ child_of h k x
    split-under n x m e =
        elim (cases_Bool (holds h (t_of h k) x)) [
          | inl f ↦ (rw f
              (ancestor_of-unique h shape (with T k) with-front (t_of h k) x
              (child_active n _ (inl refl)) f))
          | inr f ↦ (rw f
              (ancestor_of-unique h shape (with T k) with-front (u_of h k) x
              (child_active n _ (inr refl)) (holds-u_from_s h shape k x l e f)))
        ]

  module _ (e : T k ≡ true) (t_active : IsActive h T (t_of h k))
      (u_active : IsActive h T (u_of h k)) where
    not_made : (i : ℕ) → i < record_count h → T i ≡ true → Makes h k (s_of h i) → ⊥
    not_made i b f makes = elim makes [ inl c ↦ t_active.1 i b f c | inr c ↦ u_active.1 i b f c ]

    pub without-front : IsFront h (without T k)
    without-front i j m f makes =
        let p = without-parts T k i f in
        without-from T k j (λ is. not_made i m p.1 (subst (λ n. Makes h n (s_of h i)) is makes))
        (front i j m p.1 makes)

    pub collapse-under : (x : ℕ) → x < leaf_count h → Holds h (s_of h k) x
        → ancestor_of h (without T k) x ≡ s_of h k
    collapse-under x m f =
        ancestor_of-unique h shape (without T k) without-front (s_of h k) x (
          elim (there-s h shape T front k l e) [
            | inl a ↦ inl a
            | inr (j, a, b, c) ↦ grind (arith, common_steps, without-from)
          ],
          λ i b g q.
              let p = without-parts T k i g in
              elim (cases_lt i k) [
                | inl c ↦ shape.once i k c l q
                | inr c ↦
                    shape.once k i (omega arith) b (sym q)
              ],
        )
        f

    pub collapse-elsewhere : (x : ℕ) → x < leaf_count h → holds h (s_of h k) x ≡ false
        → ancestor_of h (without T k) x ≡ ancestor_of h T x
    collapse-elsewhere x m n =
        let a = active-ancestor h shape T x m in
        let f = holds-ancestor_of h shape T x m in
        ancestor_of-unique h shape (without T k) without-front (ancestor_of h T x) x (
          elim a.0 [
            | inl b ↦ inl b
            | inr (j, b, c, d) ↦ inr (
              j,
              b,
              without-from T k j (λ is.
                  let d' : Makes h k (ancestor_of h T x) =
                  subst (λ i. Makes h i (ancestor_of h T x)) is d in
                  both_ways _ n (elim d' [
                    | inl q ↦ holds-s_from_t h shape k x l (subst (λ v. Holds h v x) q f)
                    | inr q ↦ holds-s_from_u h shape k x l (subst (λ v. Holds h v x) q f)
                  ])) c,
              d,
            )
          ],
          λ i b g q. let p = without-parts T k i g in a.1 i b p.1 q,
        )
        f
