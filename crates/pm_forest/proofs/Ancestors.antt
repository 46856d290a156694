-- The ancestor of a leaf, which a fold over the records computes, is the one active node that has
-- the leaf below it; and of the records on the leaf's path a front has those whose children's
-- numbers aren't above the ancestor's.
use Rattle.std.proofs.Common.{◌≡◌, ◌≢◌, ℕ, zero, suc, ◌+◌, ◌<◌, ◌≤◌, ltb, Bool, true, false}
use Rattle.std.proofs.lemmas.Grind.{common_steps}
use Rattle.std.proofs.Common.{List, [], ◌∷◌, length, sum, inl, inr, refl, sym, subst}
use Rattle.std.proofs.Common.{arith}
use Rattle.std.proofs.lemmas.Bool.{ltb-true, ltb-false, lt-ltb, le-ltb, eqb-true, eq-eqb, and_parts}
use Rattle.std.proofs.lemmas.Bool.{and_from, cases_Bool, cases_lt, cond-true, cond-false}
use Rattle.std.proofs.lemmas.Bool.{both_ways}
use Rattle.pm_forest.specs.Forest.{widths, Hierarchy, record_count, leaf_count, s_of, t_of, u_of}
use Rattle.pm_forest.specs.Forest.{within, root_interval, root_of, interval_after, interval_of}
use Rattle.pm_forest.specs.Forest.{holds, Holds, Makes, node_count, HasForestShape}
use Rattle.pm_forest.specs.Fronts.{IsFront, IsThere, IsActive, ancestor_after, ancestor_of, every}
use Rattle.pm_forest.specs.Fronts.{below}
use Rattle.pm_forest.proofs.Nodes.{within-true, within-from, holds-s_from_t, holds-s_from_u}
use Rattle.pm_forest.proofs.Nodes.{holds-u_from_s, not_both, interval-kept, has_maker}
use Rattle.pm_forest.proofs.OwnerLaws.{sum-cons}
use Rattle.pm_forest.proofs.RootTables.{width_count}

-- The base front, the full front, and the records below a number, of which the last one has active
-- children.

pub every-front : (h : Hierarchy) → IsFront h every
every-front h k j l e makes = refl

pub below-front : (h : Hierarchy) → HasForestShape h → (n : ℕ) → IsFront h (below n)
below-front h shape n k j l e makes = grind (arith, common_steps, lt-ltb, ltb-true)

pub last_child-active : (h : Hierarchy) → HasForestShape h → (j v : ℕ) → j < record_count h
    → Makes h j v → IsActive h (below (suc j)) v
last_child-active h shape j v l makes = grind (arith, common_steps, lt-ltb, ltb-true)

-- Among roots: the root above a leaf has the leaf in its interval, and no other root has.

root_of-lt : (ws : List ℕ) (start x : ℕ) → start ≤ x → x < start + sum ws
    → root_of ws start x < length ws
root_of-lt [] start x a b = absurd (omega arith)
root_of-lt (w ∷ ws) start x a b =
    elim (cases_Bool (ltb x (start + w))) [
      | inl e ↦ (rw (cond-true _ 0 (suc (root_of ws (start + w) x)) e) (omega arith))
      | inr e ↦
          grind (arith, common_steps, cond-false, ltb-false, sum-cons, root_of-lt ws (start + w) x)
    ]

within-root : (ws : List ℕ) (start x : ℕ) → start ≤ x → x < start + sum ws
    → within (root_interval ws start (root_of ws start x)) x ≡ true
within-root [] start x a b = absurd (omega arith)
within-root (w ∷ ws) start x a b =
    elim (cases_Bool (ltb x (start + w))) [
      | inl e ↦ (rw (cond-true _ 0 (suc (root_of ws (start + w) x)) e)
          (within-from _ x a (ltb-true _ _ e)))
      | inr e ↦
          grind (arith, common_steps, cond-false, ltb-false, sum-cons, within-root ws (start + w) x)
    ]

from_root-le : (ws : List ℕ) (start v : ℕ) → start ≤ (root_interval ws start v).from
from_root-le [] start v = omega arith
from_root-le (w ∷ ws) start zero = omega arith
from_root-le (w ∷ ws) start (suc v) = let r = from_root-le ws (start + w) v in omega arith

root_of-from : (ws : List ℕ) (start v x : ℕ) → v < length ws → within (root_interval ws start v) x
    ≡ true → root_of ws start x ≡ v
root_of-from [] start v x l e = absurd (omega arith)
root_of-from (w ∷ ws) start zero x l e = let p = within-true _ x e in rw (lt-ltb x (start + w) p.1)
root_of-from (w ∷ ws) start (suc v) x l e =
    grind (arith, common_steps, from_root-le, le-ltb, within-true, root_of-from ws (start + w) v x)

root-lt : (h : Hierarchy) (x : ℕ) → x < leaf_count h → root_of (widths h) 0 x < length h.roots
root-lt h x l = let r = root_of-lt (widths h) 0 x (omega arith) (omega arith) in
    omega (arith, width_count h.roots)

-- What one record does to the node of a leaf: the node stays, or moves to the child that has the
-- leaf below it.
pub data Move (h : Hierarchy) (T : ℕ → Bool) (k x : ℕ) : Type 0 where
  stays : ancestor_after h T (suc k) x ≡ ancestor_after h T k x
      → (T k ≡ true → s_of h k ≢ ancestor_after h T k x) → Move h T k x
  to_t : T k ≡ true → s_of h k ≡ ancestor_after h T k x → Holds h (t_of h k) x
      → ancestor_after h T (suc k) x ≡ t_of h k → Move h T k x
  to_u : T k ≡ true → s_of h k ≡ ancestor_after h T k x → holds h (t_of h k) x ≡ false
      → ancestor_after h T (suc k) x ≡ u_of h k → Move h T k x

pub move : (h : Hierarchy) (T : ℕ → Bool) (k x : ℕ) → Move h T k x
unfolding ancestor_after
move h T k x =
    grind (arith, common_steps, and_from, and_parts, cond-false, cond-true, eq-eqb, eqb-true)

module _ (h : Hierarchy) (shape : HasForestShape h) where
  pub ancestor-lt : (T : ℕ → Bool) (k x : ℕ) → x < leaf_count h → ancestor_after h T k x < t_of h k
  unfolding ancestor_after
  ancestor-lt T zero x l = let r = root-lt h x l in omega arith
  ancestor-lt T (suc k) x l = grind (arith, common_steps, move, ancestor-lt T k x l)

  -- The node that the fold has reached has the leaf below it.
  pub holds-ancestor : (T : ℕ → Bool) (k x : ℕ) → k ≤ record_count h → x < leaf_count h
      → Holds h (ancestor_after h T k x) x
  unfolding ancestor_after holds interval_after
  holds-ancestor T zero x m l =
      let r = root-lt h x l in
      let w = within-root (widths h) 0 x (omega arith) (omega arith) in
      rw (interval-kept h 0 (record_count h) (root_of (widths h) 0 x) (omega arith) (omega arith)) w
  holds-ancestor T (suc k) x m l =
      grind (arith, common_steps, holds-u_from_s h shape k x m, move h T k x, holds-ancestor T k x)

  -- Two leaves whose nodes differ never meet again, since a record makes nodes that weren't there.
  apart_more : (T : ℕ → Bool) (k x y : ℕ) → x < leaf_count h → y < leaf_count h
      → ancestor_after h T k x ≢ ancestor_after h T k y
      → ancestor_after h T (suc k) x ≢ ancestor_after h T (suc k) y
  apart_more T k x y l m n = grind (arith, common_steps, ancestor-lt, move)

  pub apart_later : (T : ℕ → Bool) (k j x y : ℕ) → k ≤ j → x < leaf_count h → y < leaf_count h
      → ancestor_after h T k x ≢ ancestor_after h T k y
      → ancestor_after h T j x ≢ ancestor_after h T j y
  apart_later T k zero x y a l m n = let e : k ≡ 0 =
      omega arith in subst (λ i. ancestor_after h T i x ≢ ancestor_after h T i y) e n
  apart_later T k (suc j) x y a l m n =
      grind (arith, common_steps, apart_more T j x y l m, apart_later T k j x y)

  -- The fold never goes to a smaller number.
  pub ancestor-mono : (T : ℕ → Bool) (k j x : ℕ) → k ≤ j → x < leaf_count h
      → ancestor_after h T k x ≤ ancestor_after h T j x
  ancestor-mono T k zero x a l = let e : k ≡ 0 = omega arith in rw e (omega arith)
  ancestor-mono T k (suc j) x a l =
      grind (arith, common_steps, ancestor-lt, move, ancestor-mono T k j x)

  -- The node that a front's record splits is there.
  pub there-s : (T : ℕ → Bool) → IsFront h T → (k : ℕ) → k < record_count h → T k ≡ true
      → IsThere h T (s_of h k)
  there-s T front k l e = grind (arith, common_steps, has_maker h (s_of h k) k)

  made_by-same : (T : ℕ → Bool) (k v : ℕ) → t_of h k ≤ v → v < t_of h (suc k) → IsThere h T v
      → T k ≡ true
  made_by-same T k v a b there = grind (arith, common_steps)

  -- A node that is there, has the leaf below it and isn't split yet is where the fold stands.
  pub ancestor-at : (T : ℕ → Bool) → IsFront h T → (k v x : ℕ) → k ≤ record_count h → v < t_of h k
      → IsThere h T v → ((i : ℕ) → i < k → T i ≡ true → s_of h i ≢ v) → Holds h v x
      → ancestor_after h T k x ≡ v
  unfolding ancestor_after holds interval_after
  ancestor-at T front zero v x m l there unsplit e =
      let q : v < length (widths h) = omega (arith, width_count h.roots) in
      root_of-from (widths h) 0 v x q
      (rw (interval-kept h 0 (record_count h) v (omega arith) (omega arith)) at e)
  ancestor-at T front (suc k) v x m l there unsplit e =
      elim (cases_lt v (t_of h k)) [
        | inl b ↦
            let r = ancestor-at T front k v x (omega arith) b there
            (λ i p q. unsplit i (omega arith) q) e in
            let u = unsplit k (omega arith) in
            elim (move h T k x) [
              | stays c f ↦ omega arith
              | to_t c d f g ↦
                  absurd (u c (omega arith))
              | to_u c d f g ↦ absurd (u c (omega arith))
            ]
        | inr b ↦
            let tk = made_by-same T k v b l there in
            let r = ancestor-at T front k (s_of h k) x (omega arith) (shape.older k m)
            (there-s T front k m tk) (λ i p q. shape.once i k p m) in
            elim (cases_lt v (u_of h k)) [
              | inl c ↦
                  let is : v ≡ t_of h k = omega arith in
                  let f : Holds h (t_of h k) x = subst (λ n. Holds h n x) is e in
                  let at_s = r (holds-s_from_t h shape k x m f) in
                  elim (move h T k x) [
                    | stays c f ↦ absurd (f tk (sym at_s))
                    | to_t c d f g ↦ omega arith
                    | to_u c d f' g ↦ absurd (both_ways _ f' f)
                  ]
              | inr c ↦
                  let is : v ≡ u_of h k = omega arith in
                  let f : Holds h (u_of h k) x = subst (λ n. Holds h n x) is e in
                  let at_s = r (holds-s_from_u h shape k x m f) in
                  elim (move h T k x) [
                    | stays c f ↦ absurd (f tk (sym at_s))
                    | to_t c d f' g ↦ absurd (not_both h shape k x m f' f)
                    | to_u c d f g ↦ omega arith
                  ]
            ]
      ]

  -- The ancestor is active.

  there-ancestor : (T : ℕ → Bool) (k x : ℕ) → k ≤ record_count h → x < leaf_count h
      → IsThere h T (ancestor_after h T k x)
  unfolding ancestor_after
  there-ancestor T zero x m l = inl (root-lt h x l)
  there-ancestor T (suc k) x m l = grind (arith, common_steps, move h T k x, there-ancestor T k x)

  ancestor-unsplit : (T : ℕ → Bool) (k x : ℕ) → k ≤ record_count h → x < leaf_count h → (i : ℕ)
      → i < k → T i ≡ true → s_of h i ≢ ancestor_after h T k x
  ancestor-unsplit T zero x m l i b e = absurd (omega arith)
  ancestor-unsplit T (suc k) x m l i b e =
      grind (arith, common_steps, move h T k x, ancestor-unsplit T k x)

  pub active-ancestor : (T : ℕ → Bool) (x : ℕ) → x < leaf_count h → IsActive h T (ancestor_of h T x)
  active-ancestor T x l = grind (arith, common_steps, ancestor-unsplit, there-ancestor)

  pub holds-ancestor_of : (T : ℕ → Bool) (x : ℕ) → x < leaf_count h → Holds h (ancestor_of h T x) x
  holds-ancestor_of T x l = holds-ancestor T (record_count h) x (omega arith) l

  -- No other active node has the leaf below it.

  pub there-lt : (T : ℕ → Bool) (v : ℕ) → IsThere h T v → v < node_count h
  there-lt T v there = grind (arith, common_steps)

  pub ancestor_of-unique : (T : ℕ → Bool) → IsFront h T → (v x : ℕ) → IsActive h T v → Holds h v x
      → ancestor_of h T x ≡ v
  ancestor_of-unique T front v x active e =
      ancestor-at T front (record_count h) v x (omega arith) (there-lt T v active.0) active.0
      active.1 e

  -- A record above the leaf is in the front exactly where its children's numbers aren't above the
  -- ancestor's.

  pub deep : (T : ℕ → Bool) → IsFront h T → (j x : ℕ) → j < record_count h → x < leaf_count h
      → Holds h (s_of h j) x → T j ≡ true → t_of h j ≤ ancestor_of h T x
  deep T front j x l m e f =
      let r = ancestor-at T front j (s_of h j) x (omega arith) (shape.older j l)
      (there-s T front j l f) (λ i p q. shape.once i j p l) e in
      let g = ancestor-mono T (suc j) (record_count h) x l m in
      elim (move h T j x) [
        | stays c n ↦ absurd (n f (sym r))
        | to_t a b c d ↦ omega arith
        | to_u a b c d ↦ omega arith
      ]

  pub place-s : (k x : ℕ) → k < record_count h → Holds h (s_of h k) x
      → ancestor_after h every k x ≡ s_of h k
  place-s k x l e =
      ancestor-at every (every-front h) k (s_of h k) x (omega arith) (shape.older k l)
      (there-s every (every-front h) k l refl) (λ i p q. shape.once i k p l) e

  pub place-after : (k x : ℕ) → k < record_count h → x < leaf_count h → Holds h (s_of h k) x
      → t_of h k ≤ ancestor_after h every (suc k) x
  place-after k x l m e = grind (arith, common_steps, move, place-s)

  shallow_after : (T : ℕ → Bool) → (j i x : ℕ) → j < record_count h → x < leaf_count h
      → Holds h (s_of h j) x → T j ≡ false → j ≤ i → i ≤ record_count h
      → ancestor_after h T i x < t_of h j
  shallow_after T j zero x l m e f a b = let is : j ≡ 0 = omega arith in let r =
      ancestor-lt T 0 x m in omega arith
  shallow_after T j (suc i) x l m e f a b =
      grind (
        arith,
        common_steps,
        ancestor-lt T (suc i) x m,
        ancestor-mono every (suc j) i x,
        holds-ancestor T i x,
        move h T i x,
        place-after j x l m e,
        place-s i x b,
        shallow_after T j i x l m e f,
      )

  pub shallow : (T : ℕ → Bool) → (j x : ℕ) → j < record_count h → x < leaf_count h
      → Holds h (s_of h j) x → T j ≡ false → ancestor_of h T x < t_of h j
  shallow T j x l m e f = shallow_after T j (record_count h) x l m e f (omega arith) (omega arith)

  -- No record splits a node of one leaf, so it is that leaf's node in the full front.
  pub leaf-node : (v x : ℕ) → v < node_count h
      → interval_of h v ≡ record { from = x; until = x + 1 } → ancestor_of h every x ≡ v
  unfolding holds
  leaf-node v x l e =
      grind (
        arith,
        common_steps,
        within-from,
        ancestor_of-unique every (every-front h) v x,
        every-front h,
        has_maker h v (record_count h),
      )
