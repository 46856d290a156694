-- Where the active nodes of the first records begin: at the first leaf of each root, and of the
-- second child of each record.
use Rattle.std.proofs.Common.{◌≡◌, ◌≢◌, ℕ, zero, suc, ◌+◌, ◌*◌, ◌<◌, ◌≤◌, eqb, true, false, length}
use Rattle.std.proofs.Common.{sum, ◌||◌, ◌⊎◌, inl, inr, refl, sym, ap, ◌∙◌, arith}
use Rattle.std.proofs.lemmas.Grind.{common_steps}
use Rattle.std.proofs.lemmas.Bool.{cases_Bool, cases_lt, eq-eqb, ne_eqb, lt-ltb, ltb-true, le-ltb}
use Rattle.std.proofs.lemmas.Bool.{or_left, or_right, both_ways}
use Rattle.pm_base.specs.Counts.{count}
use Rattle.pm_base.proofs.Counts.{count-zero}
use Rattle.pm_forest.specs.Forest.{Hierarchy, Interval, record_at, record_count, widths}
use Rattle.pm_forest.specs.Forest.{leaf_count, s_of, t_of, u_of, first_part, rest, root_interval}
use Rattle.pm_forest.specs.Forest.{root_of, interval_of, holds, Holds, HasForestShape}
use Rattle.pm_forest.specs.Fronts.{IsActive, ancestor_after, ancestor_of, below}
use Rattle.pm_forest.proofs.Nodes.{within-true, within-from, interval_of-t, interval_of-u}
use Rattle.pm_forest.proofs.Nodes.{has_maker}
use Rattle.pm_forest.proofs.Ancestors.{below-front, last_child-active, ancestor-lt}
use Rattle.pm_forest.proofs.Ancestors.{active-ancestor, holds-ancestor_of, ancestor_of-unique}
use Rattle.pm_forest.proofs.RootTables.{width_count}
use Rattle.pm_prefix.specs.Prefix.{begins, begun_before}
use Rattle.pm_prefix.proofs.Nodes.{HasNodes, root_is, some_leaves, node_within}
use Rattle.pm_prefix.proofs.BegunCounts.{count_more_one, count_roots, root_next, root_last, turned}

-- Ancestors where one record more is split

no_ancestor : (h : Hierarchy) (k x : ℕ) → ancestor_after h (below 0) k x ≡ root_of (widths h) 0 x
unfolding ancestor_after
no_ancestor h zero x = refl
no_ancestor h (suc k) x = rw (le-ltb k 0 (omega arith)) (no_ancestor h k x)

module _ (h : Hierarchy) (shape : HasForestShape h) where
  -- the node that a record splits is active where those before it are split
  pub active-s : (n : ℕ) → n < record_count h → IsActive h (below n) (s_of h n)
  active-s n l = (
    elim (cases_lt (s_of h n) (length h.roots)) [
      | inl root ↦ inl root
      | inr child ↦
          let (j, j_lt, makes) = has_maker h (s_of h n) n child (shape.older n l) in
          inr (j, omega arith, lt-ltb j n j_lt, makes)
    ],
    λ k m e. shape.once k n (ltb-true k n e) l,
  )

  pub below-s : (n x : ℕ) → n < record_count h → Holds h (s_of h n) x
      → ancestor_of h (below n) x ≡ s_of h n
  below-s n x l e =
      ancestor_of-unique h shape (below n) (below-front h shape n) (s_of h n) x (active-s n l) e

  pub below-t : (n x : ℕ) → n < record_count h → Holds h (t_of h n) x
      → ancestor_of h (below (suc n)) x ≡ t_of h n
  below-t n x l e =
      ancestor_of-unique h shape (below (suc n)) (below-front h shape (suc n)) (t_of h n) x
      (last_child-active h shape n (t_of h n) l (inl refl)) e

  pub below-u : (n x : ℕ) → n < record_count h → Holds h (u_of h n) x
      → ancestor_of h (below (suc n)) x ≡ u_of h n
  below-u n x l e =
      ancestor_of-unique h shape (below (suc n)) (below-front h shape (suc n)) (u_of h n) x
      (last_child-active h shape n (u_of h n) l (inr refl)) e

  pub below-else : (n x : ℕ) → n < record_count h → x < leaf_count h
      → holds h (s_of h n) x ≡ false
      → ancestor_of h (below (suc n)) x ≡ ancestor_of h (below n) x
  below-else n x l m e =
      grind (
        arith,
        common_steps,
        lt-ltb,
        ltb-true,
        below-front h shape (suc n),
        active-ancestor h shape (below n) x,
        holds-ancestor_of h shape (below n) x,
        ancestor_of-unique h shape (below (suc n)),
      )

-- Where the active nodes begin

module _ (h : Hierarchy) (shape : HasNodes h) where
  -- one record more: the first leaf of its second child
  pub begins_suc : (n x : ℕ) → n < record_count h → x < leaf_count h
      → begins h (suc n) x ≡ eqb x (interval_of h (u_of h n)).from || begins h n x
  unfolding begins holds
  begins_suc n x l m =
      let nodes = shape.nodes in
      let wide = nodes.width n l in
      let s = interval_of h (s_of h n) in
      let w = (record_at h n).width in
      let t = interval_of-t h nodes n l in
      let u = interval_of-u h nodes n l in
      elim (cases_Bool (holds h (s_of h n) x)) [
        | inr e ↦
            let not_u : x ≢ s.from + w = λ is. both_ways _ e
            (within-from s x (omega arith) (omega arith)) in
            (rw (u, below-else h nodes n x l m e, ne_eqb x (s.from + w) not_u) refl)
        | inl e ↦
            let p = within-true s x e in
            elim (cases_lt x (s.from + w)) [
              | inl first ↦
                  let at_t : holds h (t_of h n) x ≡ true =
                  rw t (within-from (first_part s w) x p.0 first) in
                  let not_u : x ≢ s.from + w = omega arith in
                  (rw (
                    u,
                    below-t h nodes n x l at_t,
                    t,
                    below-s h nodes n x l e,
                    ne_eqb x (s.from + w) not_u,
                  ) refl)
              | inr later ↦
                  let at_u : holds h (u_of h n) x ≡ true =
                  rw u (within-from (rest s w) x later p.1) in
                  let not_s : s.from ≢ x = omega arith in
                  (rw (
                    below-u h nodes n x l at_u,
                    u,
                    below-s h nodes n x l e,
                    ne_eqb s.from x not_s,
                  ) (turned (s.from + w) x))
            ]
      ]

  root-lt : (x : ℕ) → x < leaf_count h → root_of (widths h) 0 x < length h.roots
  unfolding ancestor_after
  root-lt x l = let lt = ancestor-lt h shape.nodes (below 0) 0 x l in omega arith

  begins-zero : (x : ℕ) → x < leaf_count h
      → begins h 0 x ≡ eqb (root_interval (widths h) 0 (root_of (widths h) 0 x)).from x
  unfolding begins
  begins-zero x l =
      rw (no_ancestor h (record_count h) x, root_is h _ (root-lt x l)) refl

  -- a node of the first records begins at one of its first leaves
  pub made_begins : (n v : ℕ) → n ≤ record_count h → v < length h.roots + 2 * n
      → begins h n (interval_of h v).from ≡ true
  unfolding begins holds
  made_begins zero v m l =
      let nodes = shape.nodes in
      let i = interval_of h v in
      let held : holds h v i.from ≡ true =
      within-from i i.from (omega arith) (some_leaves h shape v (omega arith)) in
      let is : ancestor_of h (below 0) i.from ≡ v =
      ancestor_of-unique h nodes (below 0) (below-front h nodes 0) v i.from
      (inl (omega arith), λ k a e. absurd (omega (arith, ltb-true k 0 e))) held in
      rw is (eq-eqb i.from i.from refl)
  made_begins (suc n) v m l =
      let nodes = shape.nodes in
      let older = nodes.older n m in
      let first = (node_within h shape v (omega arith)).0 in
      let next = begins_suc n (interval_of h v).from m first in
      elim (cases_lt v (t_of h n)) [
        | inl a ↦ next ∙ or_right _ _ (made_begins n v (omega arith) a)
        | inr a ↦ elim (cases_lt v (u_of h n)) [
          | inl b ↦
              let is : v ≡ t_of h n = omega arith in
              let same : (interval_of h v).from ≡ (interval_of h (s_of h n)).from =
              ap (λ w. (interval_of h w).from) is ∙ ap (λ i. i.from) (interval_of-t h nodes n m) in
              next ∙ or_right _ _
              (ap (begins h n) same ∙ made_begins n (s_of h n) (omega arith) older)
          | inr b ↦
              let is : v ≡ u_of h n = omega arith in
              next ∙ or_left _ _ (eq-eqb _ _ (ap (λ w. (interval_of h w).from) is))
        ]
      ]

  begun_more : (n x : ℕ) → n < record_count h → x ≤ leaf_count h
      → (x ≡ leaf_count h) ⊎ (begins h n x ≡ true)
      → (x ≡ leaf_count h) ⊎ (begins h (suc n) x ≡ true)
  begun_more n x l m before =
      elim (cases_lt x (leaf_count h)) [
        | inr a ↦ inl (omega arith)
        | inl a ↦ elim before [
          | inl is ↦ inl is
          | inr e ↦ inr (begins_suc n x l a ∙ or_right _ _ e)
        ]
      ]

  -- and ends where another begins, or with the last leaf
  pub made_ends : (n v : ℕ) → n ≤ record_count h → v < length h.roots + 2 * n
      → ((interval_of h v).until ≡ leaf_count h) ⊎ (begins h n (interval_of h v).until ≡ true)
  made_ends zero v m l =
      let ws = widths h in
      let count = width_count h.roots in
      let is = root_is h v (omega arith) in
      elim (cases_lt (suc v) (length h.roots)) [
        | inl a ↦
            let is' = root_is h (suc v) a in
            let same : (interval_of h (suc v)).from ≡ (interval_of h v).until =
            ap (λ i. i.from) is' ∙ sym (root_next ws 0 v (omega arith))
            ∙ sym (ap (λ i. i.until) is) in
            inr (sym (ap (begins h 0) same) ∙ made_begins 0 (suc v) m (omega arith))
        | inr a ↦
            let all = root_last ws 0 v (omega arith) in
            let same = ap (λ (i : Interval). i.until) is in
            inl (omega arith)
      ]
  made_ends (suc n) v m l =
      let nodes = shape.nodes in
      let older = nodes.older n m in
      let most = (node_within h shape v (omega arith)).1 in
      elim (cases_lt v (t_of h n)) [
        | inl a ↦
            begun_more n (interval_of h v).until m most (made_ends n v (omega arith) a)
        | inr a ↦ elim (cases_lt v (u_of h n)) [
          | inl b ↦
              let is : v ≡ t_of h n = omega arith in
              let same : (interval_of h v).until ≡ (interval_of h (u_of h n)).from =
              ap (λ w. (interval_of h w).until) is
              ∙ ap (λ i. i.until) (interval_of-t h nodes n m)
              ∙ sym (ap (λ i. i.from) (interval_of-u h nodes n m)) in
              inr (ap (begins h (suc n)) same
              ∙ made_begins (suc n) (u_of h n) m (omega arith))
          | inr b ↦
              let is : v ≡ u_of h n = omega arith in
              let same : (interval_of h v).until ≡ (interval_of h (s_of h n)).until =
              ap (λ w. (interval_of h w).until) is
              ∙ ap (λ i. i.until) (interval_of-u h nodes n m) in
              begun_more n (interval_of h v).until m most
              (rw same (made_ends n (s_of h n) (omega arith) older))
        ]
      ]

  -- how many begin
  pub begun_total : (n : ℕ) → n ≤ record_count h
      → begun_before h n (leaf_count h) ≡ length h.roots + n
  unfolding begins holds
  begun_total zero l =
      let all = count_roots (begins h 0) (widths h) 0 shape.wide
      (λ x a b. begins-zero x (omega arith)) in
      let place : 0 + sum (widths h) ≡ leaf_count h = omega arith in
      let same = ap (count (begins h 0)) place in
      omega (arith, count-zero (begins h 0), width_count h.roots)
  begun_total (suc n) l =
      let nodes = shape.nodes in
      let wide = nodes.width n l in
      let s = interval_of h (s_of h n) in
      let w = (record_at h n).width in
      let u = (interval_of h (u_of h n)).from in
      let is : u ≡ s.from + w = ap (λ i. i.from) (interval_of-u h nodes n l) in
      let held : holds h (s_of h n) u ≡ true = within-from s u (omega arith) (omega arith) in
      let differs : s.from ≢ u = omega arith in
      let before : begins h n u ≡ false =
      rw (below-s h nodes n u l held) (ne_eqb s.from u differs) in
      let last = (node_within h shape (u_of h n) (omega arith)).0 in
      let more = count_more_one (begins h n) (begins h (suc n)) u (leaf_count h) last before
      (made_begins (suc n) (u_of h n) l (omega arith))
      (λ x a ne. begins_suc n x l a ∙ ap (λ b. b || begins h n x) (ne_eqb x u ne)) in
      omega (arith, more, begun_total n (omega arith))

  pub begins_zero_first : (n : ℕ) → 0 < leaf_count h → begins h n 0 ≡ true
  unfolding begins holds
  begins_zero_first n l =
      let i = interval_of h (ancestor_of h (below n) 0) in
      let p =
      within-true i 0 (holds-ancestor_of h shape.nodes (below n) 0 l) in
      eq-eqb i.from 0 (omega arith)
