-- Nodes: the record that made a node, the record that splits it, and how a record deals the leaves
-- of its node out to the two children.
use Rattle.std.proofs.Common.{◌≡◌, ◌≢◌, ℕ, zero, suc, ◌-◌, ◌/◌, ◌%◌, ◌<◌, ◌≤◌, eqb, true}
use Rattle.std.proofs.lemmas.Grind.{common_steps}
use Rattle.std.proofs.Common.{false, Some, None, length, ◌⊎◌, inl, inr, refl, sym, ap, ◌∙◌, arith}
use Rattle.std.proofs.lemmas.Bool.{ltb-true, ltb-false, le-ltb, leb-true, leb-false, le-leb, lt-ltb}
use Rattle.std.proofs.lemmas.Bool.{eqb-true, eq-eqb, ne_eqb, and_parts, and_from, and_cases}
use Rattle.std.proofs.lemmas.Bool.{cases_eq, cases_lt, cond-true, cond-false}
use Rattle.std.proofs.lemmas.Option.{none-some, same_Some}
use Rattle.pm_base.proofs.Search.{find_below-some, find_below-has}
use Rattle.pm_forest.specs.Forest.{Hierarchy, Interval, record_at, record_count, s_of, t_of, u_of}
use Rattle.pm_forest.specs.Forest.{node_count, within, first_part, rest, interval_after}
use Rattle.pm_forest.specs.Forest.{interval_of, holds, Holds, Makes, maker_of, splitter_of}
use Rattle.pm_forest.specs.Forest.{HasForestShape}

-- Leaf intervals.

pub within-true : (i : Interval) (x : ℕ) → within i x ≡ true → (i.from ≤ x) × (x < i.until)
within-true i x e = let p = and_parts _ _ e in (leb-true _ _ p.0, ltb-true _ _ p.1)

pub within-from : (i : Interval) (x : ℕ) → i.from ≤ x → x < i.until → within i x ≡ true
within-from i x a b = and_from _ _ (le-leb _ _ a) (lt-ltb _ _ b)

pub within-false : (i : Interval) (x : ℕ) → within i x ≡ false → (x < i.from) ⊎ (i.until ≤ x)
within-false i x e =
    elim (and_cases _ _ e) [ inl a ↦ inl (leb-false _ _ a) | inr b ↦ inr (ltb-false _ _ b) ]

-- The interval of each node once record k has given its children.
pub interval-t : (h : Hierarchy) (k : ℕ) → interval_after h (suc k) (t_of h k)
    ≡ first_part (interval_after h k (s_of h k)) (record_at h k).width
unfolding interval_after
interval-t h k = rw (eq-eqb (t_of h k) (t_of h k) refl)

pub interval-u : (h : Hierarchy) (k : ℕ) → interval_after h (suc k) (u_of h k)
    ≡ rest (interval_after h k (s_of h k)) (record_at h k).width
unfolding interval_after
interval-u h k =
    let n : u_of h k ≢ t_of h k = omega arith in
    rw (ne_eqb (u_of h k) (t_of h k) n, eq-eqb (u_of h k) (u_of h k) refl)

pub interval-else : (h : Hierarchy) (k v : ℕ) → v ≢ t_of h k → v ≢ u_of h k
    → interval_after h (suc k) v ≡ interval_after h k v
unfolding interval_after
interval-else h k v a b = rw (ne_eqb v (t_of h k) a, ne_eqb v (u_of h k) b)

-- A node that is there before record k keeps its interval.
pub interval-kept : (h : Hierarchy) (k j v : ℕ) → k ≤ j → v < t_of h k
    → interval_after h j v ≡ interval_after h k v
interval-kept h k zero v a l = let e : k ≡ 0 = omega arith in rw e
interval-kept h k (suc j) v a l = grind (arith, common_steps, interval-else, interval-kept h k j v)

module _ (h : Hierarchy) (shape : HasForestShape h) where
  pub interval_of-t : (k : ℕ) → k < record_count h
      → interval_of h (t_of h k) ≡ first_part (interval_of h (s_of h k)) (record_at h k).width
  interval_of-t k l =
      interval-kept h (suc k) (record_count h) (t_of h k) l (omega arith)
      ∙ interval-t h k
      ∙ ap (λ i. first_part i (record_at h k).width)
      (sym (interval-kept h k (record_count h) (s_of h k) (omega arith) (shape.older k l)))

  pub interval_of-u : (k : ℕ) → k < record_count h
      → interval_of h (u_of h k) ≡ rest (interval_of h (s_of h k)) (record_at h k).width
  interval_of-u k l =
      interval-kept h (suc k) (record_count h) (u_of h k) l (omega arith)
      ∙ interval-u h k
      ∙ ap (λ i. rest i (record_at h k).width)
      (sym (interval-kept h k (record_count h) (s_of h k) (omega arith) (shape.older k l)))

  -- The leaves below s are those below its two children, each below one of them.
  pub holds-s_from_t : (k x : ℕ) → k < record_count h → Holds h (t_of h k) x → Holds h (s_of h k) x
  unfolding holds
  holds-s_from_t k x l e = grind (arith, common_steps, interval_of-t, within-from, within-true)

  pub holds-s_from_u : (k x : ℕ) → k < record_count h → Holds h (u_of h k) x → Holds h (s_of h k) x
  unfolding holds
  holds-s_from_u k x l e = grind (arith, common_steps, interval_of-u, within-from, within-true)

  pub holds-u_from_s : (k x : ℕ) → k < record_count h → Holds h (s_of h k) x
      → holds h (t_of h k) x ≡ false → Holds h (u_of h k) x
  unfolding holds
  holds-u_from_s k x l e n =
      let p = within-true _ x e in
      let w = shape.width k l in
      let q = within-false _ x (rw (interval_of-t k l) at n) in
      rw (interval_of-u k l)
      (within-from _ x (elim q [ inl a ↦ absurd (omega arith) | inr b ↦ b ]) p.1)

  pub not_both : (k x : ℕ) → k < record_count h → Holds h (t_of h k) x → Holds h (u_of h k) x → ⊥
  unfolding holds
  not_both k x l e f = grind (arith, common_steps, interval_of-t, interval_of-u, within-true)

-- Each node but the roots was made by one record.

pub makes_once : (h : Hierarchy) (i j v : ℕ) → Makes h i v → Makes h j v → i ≡ j
makes_once h i j v a b = grind (arith, common_steps)

-- a node is a child of a record or isn't
pub cases_made : (h : Hierarchy) (k v : ℕ) → Makes h k v ⊎ (Makes h k v → ⊥)
cases_made h k v = grind (arith, common_steps)

pub has_maker : (h : Hierarchy) (v n : ℕ) → length h.roots ≤ v → v < t_of h n
    → (j : ℕ) × (j < n) × Makes h j v
has_maker h v n a b =
    elim (cases_eq ((v - length h.roots) % 2) 0) [
      | inl e ↦ ((v - length h.roots) / 2, omega arith, inl (omega arith))
      | inr e ↦ ((v - length h.roots) / 2, omega arith, inr (omega arith))
    ]

-- The same of the search `maker_of`: what it answers made the node, and it answers none for a root
-- alone.

pub maker_of-makes : (h : Hierarchy) (j v : ℕ) → maker_of h v ≡ Some j → Makes h j v
maker_of-makes h j v e =
    grind (arith, common_steps, cond-false, cond-true, ltb-false, none-some, same_Some)

pub maker_of-from : (h : Hierarchy) (j v : ℕ) → Makes h j v → maker_of h v ≡ Some j
maker_of-from h j v makes = grind (arith, common_steps, cond-false, le-ltb)

pub maker_of-none : (h : Hierarchy) (v : ℕ) → maker_of h v ≡ None → v < length h.roots
maker_of-none h v e = grind (arith, common_steps, cond-false, ltb-true, none-some)

pub maker_of-root : (h : Hierarchy) (v : ℕ) → v < length h.roots → maker_of h v ≡ None
maker_of-root h v l =
    cond-true _ None (Some ((v - length h.roots) / 2)) (lt-ltb v (length h.roots) l)

pub maker_of-lt : (h : Hierarchy) (j v : ℕ) → v < node_count h → maker_of h v ≡ Some j
    → j < record_count h
maker_of-lt h j v l e = elim (maker_of-makes h j v e) [ inl a ↦ omega arith | inr a ↦ omega arith ]

-- At most one record splits a node.

pub splitter_of-splits : (h : Hierarchy) (k v : ℕ) → splitter_of h v ≡ Some k
    → (s_of h k ≡ v) × (k < record_count h)
unfolding splitter_of
splitter_of-splits h k v e = let p = find_below-some (λ i. eqb (s_of h i) v) (record_count h) k e in
    (eqb-true (s_of h k) v p.0, p.1)

pub splitter_of-s : (h : Hierarchy) → HasForestShape h → (k : ℕ) → k < record_count h
    → splitter_of h (s_of h k) ≡ Some k
unfolding splitter_of
splitter_of-s h shape k l =
    let (m, e) =
    find_below-has (λ i. eqb (s_of h i) (s_of h k)) (record_count h) k l
    (eq-eqb (s_of h k) (s_of h k) refl) in
    let p = splitter_of-splits h m (s_of h k) e in
    e ∙ ap Some (elim (cases_lt m k) [
      | inl a ↦ absurd (shape.once m k a l p.0)
      | inr a ↦ elim (cases_eq m k) [
        | inl b ↦ b
        | inr b ↦
            absurd (shape.once k m (omega arith) p.1 (sym p.0))
      ]
    ])
