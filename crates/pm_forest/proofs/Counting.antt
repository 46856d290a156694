-- Once all records are split there is a node for each leaf: a record adds one node without
-- children, and one leaf that is the first of its node.
use Rattle.std.proofs.Common.{◌≡◌, ◌≢◌, ℕ, zero, suc, ◌+◌, ◌<◌, ◌≤◌, eqb, Bool, true, false, List}
use Rattle.std.proofs.lemmas.Grind.{common_steps}
use Rattle.std.proofs.Common.{[], ◌∷◌, length, sum, All, inl, inr, refl, sym, ap, ◌∙◌, arith}
use Rattle.std.proofs.lemmas.Bool.{cases_Bool, cases_lt, eqb-true, eq-eqb, ne_eqb, lt-ltb}
use Rattle.std.proofs.lemmas.Bool.{le-ltb}
use Rattle.std.proofs.lemmas.List.{length-map}
use Rattle.pm_base.specs.Counts.{one_if}
use Rattle.pm_forest.specs.Forest.{Hierarchy, record_at, record_count, widths, leaf_count, s_of}
use Rattle.pm_forest.specs.Forest.{t_of, u_of, first_part, rest, root_interval, root_of}
use Rattle.pm_forest.specs.Forest.{interval_after, interval_of, holds, Holds, HasForestShape}
use Rattle.pm_forest.specs.Fronts.{ancestor_after, ancestor_of, every}
use Rattle.pm_forest.specs.Tables.{IsSingle, leaf_node_of}
use Rattle.pm_forest.proofs.Nodes.{within-true, within-from, interval-kept, interval_of-t}
use Rattle.pm_forest.proofs.Nodes.{interval_of-u, holds-u_from_s}
use Rattle.pm_forest.proofs.Ancestors.{move, stays, to_t, to_u, ancestor-lt, holds-ancestor}
use Rattle.pm_forest.proofs.Ancestors.{holds-ancestor_of, active-ancestor, ancestor_of-unique}
use Rattle.pm_forest.proofs.Ancestors.{place-s}
use Rattle.pm_forest.proofs.OwnerLaws.{sum-cons}

-- How many numbers below n pass.
abbrev count_below : (ℕ → Bool) → ℕ → ℕ
count_below p zero = 0
count_below p (suc n) = count_below p n + one_if (p n)

count_below-le : (p : ℕ → Bool) (n : ℕ) → count_below p n ≤ n
count_below-le p zero = omega arith
count_below-le p (suc n) =
    let rest = count_below-le p n in
    elim (cases_Bool (p n)) [ inl a ↦ (rw a (omega arith)) | inr a ↦ (rw a (omega arith)) ]

-- if as many pass as there are, each passes
count_below-all : (p : ℕ → Bool) (n x : ℕ) → count_below p n ≡ n → x < n → p x ≡ true
count_below-all p zero x all l = absurd (omega arith)
count_below-all p (suc n) x all l =
    grind (arith, common_steps, count_below-le, count_below-all p n x)

count_below-same : (p q : ℕ → Bool) (n : ℕ) → ((x : ℕ) → x < n → q x ≡ p x)
    → count_below q n ≡ count_below p n
count_below-same p q zero same = refl
count_below-same p q (suc n) same =
    rw (same n (omega arith), count_below-same p q n (λ x l. same x (omega arith))) refl

-- one number more that passes
count_below-more : (p q : ℕ → Bool) (n c : ℕ) → c < n → p c ≡ false → q c ≡ true →
    ((x : ℕ) → x < n → x ≢ c → q x ≡ p x) → count_below q n ≡ suc (count_below p n)
count_below-more p q zero c l at_p at_q same = absurd (omega arith)
count_below-more p q (suc n) c l at_p at_q same =
    grind (arith, common_steps, count_below-same, count_below-more p q n c)

-- of w numbers from a on the first alone passes
count_below-one : (p : ℕ → Bool) (a w : ℕ) → p a ≡ true
    → ((x : ℕ) → a < x → x < a + suc w → p x ≡ false) →
    count_below p (a + suc w) ≡ count_below p a + 1
count_below-one p a zero first others =
    let next : a + 1 ≡ suc a = omega arith in
    rw (next, first) refl
count_below-one p a (suc w) first others =
    let next : a + suc (suc w) ≡ suc (a + suc w) = omega arith in
    let last : p (a + suc w) ≡ false = others (a + suc w) (omega arith) (omega arith) in
    let before = count_below-one p a w first (λ x b c. others x b (omega arith)) in
    rw (next, last) (omega arith)

-- before the first record as many leaves are the first of their root as there are roots
first_of_roots : (p : ℕ → Bool) (ws : List ℕ) (start : ℕ) → All (λ w. 0 < w) ws →
    ((x : ℕ) → start ≤ x → x < start + sum ws
    → p x ≡ eqb (root_interval ws start (root_of ws start x)).from x) →
    count_below p (start + sum ws) ≡ count_below p start + length ws
first_of_roots p [] start wide is = let none : start + sum [] ≡ start =
    omega arith in rw none (omega arith)
first_of_roots p (zero ∷ ws) start wide is = let never : 0 < 0 =
    wide 0 0 (omega arith) in absurd (omega arith)
first_of_roots p (suc w ∷ ws) start wide is =
    let all = sum-cons (suc w) ws in
    let first : p start ≡ true = grind (arith, common_steps, eq-eqb, lt-ltb) in
    let others : (x : ℕ) → start < x → x < start + suc w → p x ≡ false = λ x a b.
    let differs : start ≢ x = omega arith in
    is x (omega arith) (omega arith) ∙ (rw (lt-ltb x (start + suc w) b) (ne_eqb start x differs)) in
    let one = count_below-one p start w first others in
    let later : (x : ℕ) → start + suc w ≤ x → x < start + suc w + sum ws
    → p x ≡ eqb (root_interval ws (start + suc w) (root_of ws (start + suc w) x)).from x =
    λ x a b.
    is x (omega arith) (omega arith) ∙ (rw (le-ltb x (start + suc w) a)) in
    let more = first_of_roots p ws (start + suc w) (λ k d l. wide (suc k) d (omega arith)) later in
    let place : start + sum (suc w ∷ ws) ≡ start + suc w + sum ws = omega arith in
    rw place (omega arith)

module _ (h : Hierarchy) (shape : HasForestShape h) where
  -- no interval goes past the last leaf
  until_root-le : (ws : List ℕ) (start v : ℕ) → (root_interval ws start v).until ≤ start + sum ws
  until_root-le [] start v = omega arith
  until_root-le (w ∷ ws) start zero = omega (arith, sum-cons w ws)
  until_root-le (w ∷ ws) start (suc v) =
      omega (arith, sum-cons w ws, until_root-le ws (start + w) v)

  -- what record k has for the interval that it splits
  width_after : (k : ℕ) → k < record_count h → let i =
      interval_after h k (s_of h k) in
      (0 < (record_at h k).width) × (i.from + (record_at h k).width < i.until)
  width_after k l =
      let kept = interval-kept h k (record_count h) (s_of h k) (omega arith) (shape.older k l) in
      rw (← kept) (shape.width k l)

  until-le : (k v : ℕ) → k ≤ record_count h → (interval_after h k v).until ≤ leaf_count h
  unfolding interval_after
  until-le zero v l = omega (arith, until_root-le (widths h) 0 v)
  until-le (suc k) v l =
      grind (arith, common_steps, eq-eqb, ne_eqb, width_after, until-le k (s_of h k), until-le k v)

  holds_parts : (v x : ℕ) → Holds h v x → ((interval_of h v).from ≤ x)
      × (x < (interval_of h v).until)
  unfolding holds
  holds_parts v x e = within-true _ x e

  holds_from : (v x : ℕ) → (interval_of h v).from ≤ x → x < (interval_of h v).until → Holds h v x
  unfolding holds
  holds_from v x a b = within-from _ x a b

  -- Leaf x is the first of its node, once the first k records are split.
  abbrev is_first : ℕ → ℕ → Bool
  is_first k x = eqb (interval_after h k (ancestor_after h every k x)).from x

  same_start : (x : ℕ)
      → is_first 0 x ≡ eqb (root_interval (widths h) 0 (root_of (widths h) 0 x)).from x
  unfolding interval_after ancestor_after
  same_start x = refl

  first_at_start : All (λ w. 0 < w) (widths h) → count_below (is_first 0) (leaf_count h)
      ≡ length h.roots
  first_at_start wide = grind (arith, common_steps, first_of_roots, length-map, same_start)

  -- the intervals of the node that record k splits and of its children, once it has split it
  split_interval : (k : ℕ) → k < record_count h
      → interval_of h (s_of h k) ≡ interval_after h k (s_of h k)
  split_interval k l = interval-kept h k (record_count h) (s_of h k) (omega arith) (shape.older k l)

  after_t : (k : ℕ) → k < record_count h →
      interval_after h (suc k) (t_of h k)
      ≡ first_part (interval_after h k (s_of h k)) (record_at h k).width
  after_t k l =
      sym (interval-kept h (suc k) (record_count h) (t_of h k) l (omega arith))
      ∙ interval_of-t h shape k l
      ∙ ap (λ i. first_part i (record_at h k).width) (split_interval k l)

  after_u : (k : ℕ) → k < record_count h →
      interval_after h (suc k) (u_of h k)
      ≡ rest (interval_after h k (s_of h k)) (record_at h k).width
  after_u k l =
      sym (interval-kept h (suc k) (record_count h) (u_of h k) l (omega arith))
      ∙ interval_of-u h shape k l ∙ ap (λ i. rest i (record_at h k).width) (split_interval k l)

  -- The first leaf of the second child of record k.
  abbrev first_of_u : ℕ → ℕ
  first_of_u k = (interval_after h k (s_of h k)).from + (record_at h k).width

  under_s : (k : ℕ) → k < record_count h → Holds h (s_of h k) (first_of_u k)
  unfolding holds
  under_s k l = grind (arith, common_steps, split_interval, width_after, within-from)

  -- the leaves of the first child come before it, and those of the second child don't
  before_u : (k x : ℕ) → k < record_count h → Holds h (t_of h k) x → x < first_of_u k
  unfolding holds
  before_u k x l e = (within-true _ x (rw (interval_of-t h shape k l, split_interval k l) at e)).1

  from_u : (k x : ℕ) → k < record_count h → Holds h (u_of h k) x → first_of_u k ≤ x
  unfolding holds
  from_u k x l e = (within-true _ x (rw (interval_of-u h shape k l, split_interval k l) at e)).0

  new_first : (k : ℕ) → k < record_count h →
      (is_first k (first_of_u k) ≡ false) × (is_first (suc k) (first_of_u k) ≡ true)
  new_first k l =
      let c = first_of_u k in
      let w = width_after k l in
      let place : ancestor_after h every k c ≡ s_of h k = place-s h shape k c l (under_s k l) in
      let differs : (interval_after h k (s_of h k)).from ≢ c = omega arith in
      let is : is_first (suc k) c ≡ true =
      grind (arith, common_steps, after_u, before_u, eq-eqb, move, stays, to_t, to_u) in
      ((rw place (ne_eqb _ c differs)), is)

  same_first : (k x : ℕ) → k < record_count h → x < leaf_count h → x ≢ first_of_u k →
      is_first (suc k) x ≡ is_first k x
  same_first k x l m differs =
      let older = ancestor-lt h shape every k x m in
      let kept = interval-kept h k (suc k) (ancestor_after h every k x) (omega arith) older in
      elim (move h every k x) [
        | stays e n ↦ (rw (e, kept) refl)
        | to_t a b f e ↦ (rw (e, after_t k l, ← b) refl)
        | to_u a b f e ↦
            let w = width_after k l in
            let under : Holds h (s_of h k) x = grind (arith, common_steps, holds-ancestor) in
            let past = from_u k x l (holds-u_from_s h shape k x l under f) in
            let not_c : first_of_u k ≢ x = omega arith in
            let not_s : (interval_after h k (s_of h k)).from ≢ x = omega arith in
            rw (e, after_u k l, ← b) (ne_eqb (first_of_u k) x not_c ∙ sym (ne_eqb _ x not_s))
      ]

  -- so record k adds one leaf that is the first of its node
  first_more : (k : ℕ) → k < record_count h →
      count_below (is_first (suc k)) (leaf_count h) ≡ suc (count_below (is_first k) (leaf_count h))
  first_more k l =
      let w = width_after k l in
      let last = until-le k (s_of h k) (omega arith) in
      let new = new_first k l in
      count_below-more (is_first k) (is_first (suc k)) (leaf_count h) (first_of_u k) (omega arith)
      new.0 new.1
      (λ x m differs. same_first k x l m differs)

  first_count : All (λ w. 0 < w) (widths h) → (k : ℕ) → k ≤ record_count h →
      count_below (is_first k) (leaf_count h) ≡ length h.roots + k
  first_count wide zero l = omega (arith, first_at_start wide)
  first_count wide (suc k) l = omega (arith, first_more k l, first_count wide k (omega arith))

  -- each leaf has a node of its own once all records are split
  pub leaf_nodes_are_single : All (λ w. 0 < w) (widths h)
      → record_count h + length h.roots ≡ leaf_count h → (x : ℕ) →
      x < leaf_count h → IsSingle (interval_of h (leaf_node_of h x))
  leaf_nodes_are_single wide all x l =
      let n = record_count h in
      let v = leaf_node_of h x in
      let count : count_below (is_first n) (leaf_count h) ≡ leaf_count h =
      omega (arith, first_count wide n (omega arith)) in
      let first = eqb-true _ _ (count_below-all (is_first n) (leaf_count h) x count l) in
      let under = holds_parts v x (holds-ancestor_of h shape every x l) in
      let last = until-le n v (omega arith) in
      elim (cases_lt (suc x) (interval_of h v).until) [
        | inl more ↦
            let next_under : Holds h v (suc x) = holds_from v (suc x) (omega arith) more in
            let same : ancestor_of h every (suc x) ≡ v =
            ancestor_of-unique h shape every (λ k j m e made. refl) v (suc x)
            (active-ancestor h shape every x l) next_under in
            let first' =
            eqb-true _ _
            (count_below-all (is_first n) (leaf_count h) (suc x) count (omega arith)) in
            let same_first' : (interval_of h v).from ≡ suc x = rw same at first' in
            absurd (omega arith)
        | inr one ↦ omega arith
      ]
