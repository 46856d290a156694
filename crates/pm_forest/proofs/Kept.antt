-- Where two leaves below the node of a record have one ancestor, and where two: those below its two
-- children have one until the record is split, and two from then on.
use Rattle.std.proofs.Common.{◌≡◌, ◌≢◌, ℕ, zero, suc, ◌<◌, ◌≤◌, Bool, true, false, inl, inr}
use Rattle.std.proofs.lemmas.Grind.{common_steps}
use Rattle.std.proofs.Common.{sym, ◌∙◌, subst, arith}
use Rattle.std.proofs.lemmas.Bool.{cases_eq, cases_lt, false_from_ne_true, both_ways}
use Rattle.pm_forest.specs.Forest.{Hierarchy, record_count, leaf_count, s_of, t_of, u_of, holds}
use Rattle.pm_forest.specs.Forest.{Holds, HasForestShape}
use Rattle.pm_forest.specs.Fronts.{IsFront, ancestor_after, ancestor_of, every}
use Rattle.pm_forest.proofs.Nodes.{holds-s_from_t, holds-s_from_u, not_both}
use Rattle.pm_forest.proofs.Ancestors.{stays, to_t, to_u, move, apart_later, ancestor-at, there-s}
use Rattle.pm_forest.proofs.Ancestors.{place-s, holds-ancestor}

module _ (h : Hierarchy) (shape : HasForestShape h) where
  -- Two leaves below s are at one node until s is split in the full front,
  same_place : (k a b : ℕ) → k < record_count h → Holds h (s_of h k) a → Holds h (s_of h k) b
      → ancestor_after h every k a ≡ ancestor_after h every k b
  same_place k a b l e f = place-s h shape k a l e ∙ sym (place-s h shape k b l f)

  -- and then at two, if they are below different children.
  parted : (k a b : ℕ) → k < record_count h → a < leaf_count h → b < leaf_count h
      → Holds h (t_of h k) a → Holds h (s_of h k) b → holds h (t_of h k) b ≡ false
      → ancestor_after h every (suc k) a ≢ ancestor_after h every (suc k) b
  parted k a b l la lb e f g =
      grind (arith, common_steps, holds-s_from_t, move, place-s, stays, to_t, to_u)

  -- So no other record has one of them below its first child and one below its second.
  never_between : (k a b i x y : ℕ) → k < record_count h → i < record_count h → a < leaf_count h
      → b < leaf_count h → x < leaf_count h → y < leaf_count h
      → Holds h (t_of h k) a → Holds h (u_of h k) b → Holds h (s_of h k) x → Holds h (s_of h k) y
      → Holds h (s_of h i) a → Holds h (s_of h i) b
      → Holds h (t_of h i) x → Holds h (s_of h i) y → holds h (t_of h i) y ≡ false → i ≢ k → ⊥
  never_between k a b i x y l m la lb lx ly e f ex ey fa fb tx sy ty n =
      elim (cases_lt i k) [
        | inl c ↦ apart_later h shape every (suc i) k x y c lx ly (parted i x y m lx ly tx sy ty)
            (same_place k x y l ex ey)
        | inr c ↦
            let not_t : holds h (t_of h k) b ≡ false =
            false_from_ne_true _ (λ g. not_both h shape k b l g f) in
            apart_later h shape every (suc k) i a b (omega arith) la lb
            (parted k a b l la lb e (holds-s_from_u h shape k b l f) not_t)
            (same_place i a b m fa fb)
      ]

  -- Leaves below the two children of a record that isn't split have one ancestor.
  module _ (T : ℕ → Bool) (k a b : ℕ) (l : k < record_count h) (la : a < leaf_count h)
      (lb : b < leaf_count h) (e : Holds h (t_of h k) a) (f : Holds h (u_of h k) b)
      (g : T k ≡ false) where
    joined_after : (i : ℕ) → i ≤ record_count h → ancestor_after h T i a ≡ ancestor_after h T i b
    unfolding ancestor_after
    joined_after zero m =
        elim (cases_eq (ancestor_after h T 0 a) (ancestor_after h T 0 b)) [
          | inl is ↦ is
          | inr n ↦ absurd
              (apart_later h shape every 0 k a b (omega arith) la lb n
              (same_place k a b l (holds-s_from_t h shape k a l e)
              (holds-s_from_u h shape k b l f)))
        ]
    joined_after (suc i) m =
        let r = joined_after i (omega arith) in
        let sa = holds-s_from_t h shape k a l e in
        let sb = holds-s_from_u h shape k b l f in
        let ha = holds-ancestor h shape T i a (omega arith) la in
        let hb = holds-ancestor h shape T i b (omega arith) lb in
        let other : T i ≡ true → i ≢ k = λ p is. both_ways _ g (subst (λ n. T n ≡ true) is p) in
        elim (move h T i a) [
          | stays c n ↦ grind (arith, common_steps, move, stays, to_t, to_u)
          | to_t p q t d ↦ grind (arith, common_steps, move, never_between, stays, to_t, to_u)
          | to_u p q t d ↦ grind (arith, common_steps, move, never_between, stays, to_t, to_u)
        ]

    pub joined : ancestor_of h T a ≡ ancestor_of h T b
    joined = joined_after (record_count h) (omega arith)

  module _ (T : ℕ → Bool) (front : IsFront h T) (k : ℕ) (l : k < record_count h) (g : T k ≡ true)
    where
      at_s : (a : ℕ) → Holds h (s_of h k) a → ancestor_after h T k a ≡ s_of h k
      at_s a e = ancestor-at h shape T front k (s_of h k) a (omega arith) (shape.older k l)
          (there-s h shape T front k l g) (λ i p q. shape.once i k p l) e

      -- A leaf that isn't below s has another ancestor than one that is, as soon as s is split,
      pub apart_outside : (a c : ℕ) → a < leaf_count h → c < leaf_count h → Holds h (s_of h k) a
          → holds h (s_of h k) c ≡ false → ancestor_of h T a ≢ ancestor_of h T c
      apart_outside a c la lc e f =
          apart_later h shape T k (record_count h) a c (omega arith) la lc
          (λ q. both_ways _ f
          (subst (λ v. Holds h v c) (sym q ∙ at_s a e)
          (holds-ancestor h shape T k c (omega arith) lc)))

      -- and leaves below its two children have two.
      pub apart_children : (a b : ℕ) → a < leaf_count h → b < leaf_count h → Holds h (t_of h k) a
          → Holds h (u_of h k) b → ancestor_of h T a ≢ ancestor_of h T b
      apart_children a b la lb e f =
          let p = at_s a (holds-s_from_t h shape k a l e) in
          let q = at_s b (holds-s_from_u h shape k b l f) in
          let now : ancestor_after h T (suc k) a ≢ ancestor_after h T (suc k) b =
          grind (arith, common_steps, move, not_both, stays, to_t, to_u) in
          apart_later h shape T (suc k) (record_count h) a b l la lb now
