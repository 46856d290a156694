-- Which nodes of an arena are no part of a ring, so that a write there leaves it.
use Rattle.std.proofs.Common.{◌≡◌, ◌≢◌, ℕ, ◌+◌, ◌<◌, true, false, eqb, List, [], get_or, set, sym}
use Rattle.std.proofs.lemmas.Grind.{common_steps}
use Rattle.std.proofs.Common.{◌∙◌, subst, ◌⊎◌, inl, inr, ⊎_elim, arith}
use Rattle.std.proofs.lemmas.List.{get_or_past}
use Rattle.std.proofs.lemmas.Bool.{or_cases, eqb-true, false≢true, false_from_ne_true}
use Rattle.pm_links.specs.Lists.{has}
use Rattle.pm_links.specs.Arena.{IsLinked, IsArena}
use Rattle.pm_links.proofs.Runs.{linked-set, first_in, last_in, next_in, prev_in}

-- node p is no part of the ring of head g
pub record IsOutside (n : ℕ) (ls : List (List ℕ)) (g p : ℕ) : Type 0 where
  pub start : n + g ≢ p
  pub inner : has (get_or ls g []) p ≡ false

-- the ring of head g stays if the written nodes are outside
pub stays : (n : ℕ) (next prev : List ℕ) (ls : List (List ℕ)) (g p v q w : ℕ) → IsOutside n ls g p →
    IsOutside n ls g q → IsLinked next prev (n + g) (get_or ls g []) (n + g) →
    IsLinked (set next p v) (set prev q w) (n + g) (get_or ls g []) (n + g)
stays n next prev ls g p v q w op oq l = linked-set next prev p v q w (n + g) (get_or ls g [])
    (n + g) op.start op.inner oq.start oq.inner l

module _ {n m : ℕ} {next prev owner : List ℕ} {ls : List (List ℕ)}
    (a : IsArena n m next prev owner ls) where
  -- a head whose list has an item is one of the m heads
  pub low_head : (h x : ℕ) → has (get_or ls h []) x ≡ true → h < m
  low_head h x i = grind (arith, common_steps, false≢true, get_or_past, ⊎_elim)

  -- the node of a head is no item
  pub head_out : (h : ℕ) → h < m → has (get_or ls h []) (n + h) ≡ false
  head_out h hm = false_from_ne_true (has (get_or ls h []) (n + h))
      (λ t. let lt : n + h < n = a.in_range h (n + h) hm t in omega arith)

  -- another head's node
  pub outside_head : (g h : ℕ) → g < m → h ≢ g → IsOutside n ls g (n + h)
  outside_head g h gm ne = grind (arith, common_steps, get_or)

  -- an item of another head's list
  pub outside_item : (g h y : ℕ) → g < m → h < m → h ≢ g → has (get_or ls h []) y ≡ true
      → IsOutside n ls g y
  outside_item g h y gm hm ne i =
      let lt : y < n = a.in_range h y hm i in
      record {
        start = omega arith;
        inner = false_from_ne_true (has (get_or ls g []) y)
            (λ t. ne (sym (a.owned h y hm i) ∙ a.owned g y gm t));
      }

  -- either of the two
  pub outside : (g h y : ℕ) → g < m → h < m → h ≢ g →
      (y ≡ n + h) ⊎ (has (get_or ls h []) y ≡ true) → IsOutside n ls g y
  outside g h y gm hm ne c =
      ⊎_elim (λ e. subst (λ (k : ℕ). IsOutside n ls g k) (sym e) (outside_head g h gm ne))
      (λ i. outside_item g h y gm hm ne i) c

  -- ---- the nodes beside a node of a ring

  pub first_at : (h : ℕ) → h < m → (get_or next (n + h) 0 ≡ n + h) ⊎ (has (get_or ls h [])
      (get_or next (n + h) 0) ≡ true)
  first_at h hm = first_in next prev (n + h) (get_or ls h []) (n + h) (a.linked h hm)

  pub last_at : (h : ℕ) → h < m → (get_or prev (n + h) 0 ≡ n + h) ⊎ (has (get_or ls h [])
      (get_or prev (n + h) 0) ≡ true)
  last_at h hm =
      let p : ℕ = get_or prev (n + h) 0 in
      ⊎_elim (λ t. inl (sym (eqb-true (n + h) p t))) (λ t. inr t)
      (or_cases (eqb (n + h) p) (has (get_or ls h []) p)
      (last_in next prev (n + h) (get_or ls h []) (n + h) (a.linked h hm)))

  pub before_at : (h x : ℕ) → has (get_or ls h []) x ≡ true →
      (get_or prev x 0 ≡ n + h) ⊎ (has (get_or ls h []) (get_or prev x 0) ≡ true)
  before_at h x i =
      let p : ℕ = get_or prev x 0 in
      ⊎_elim (λ t. inl (sym (eqb-true (n + h) p t))) (λ t. inr t)
      (or_cases (eqb (n + h) p) (has (get_or ls h []) p)
      (prev_in next prev (n + h) (get_or ls h []) (n + h) x i (a.linked h (low_head h x i))))

  pub after_at : (h x : ℕ) → has (get_or ls h []) x ≡ true →
      (get_or next x 0 ≡ n + h) ⊎ (has (get_or ls h []) (get_or next x 0) ≡ true)
  after_at h x i =
      next_in next prev (n + h) (get_or ls h []) (n + h) x i (a.linked h (low_head h x i))

  -- a node of a ring is a node
  pub node_in : (h y : ℕ) → h < m → (y ≡ n + h) ⊎ (has (get_or ls h []) y ≡ true) → y < n + m
  node_in h y hm c =
      ⊎_elim (λ e. omega arith) (λ i. let lt : y < n = a.in_range h y hm i in omega arith) c

  pub first_node_in : (h : ℕ) → h < m → get_or next (n + h) 0 < n + m
  first_node_in h hm = node_in h (get_or next (n + h) 0) hm (first_at h hm)

  pub last_node_in : (h : ℕ) → h < m → get_or prev (n + h) 0 < n + m
  last_node_in h hm = node_in h (get_or prev (n + h) 0) hm (last_at h hm)

  pub before_in : (h x : ℕ) → has (get_or ls h []) x ≡ true → get_or prev x 0 < n + m
  before_in h x i = node_in h (get_or prev x 0) (low_head h x i) (before_at h x i)

  pub after_in : (h x : ℕ) → has (get_or ls h []) x ≡ true → get_or next x 0 < n + m
  after_in h x i = node_in h (get_or next x 0) (low_head h x i) (after_at h x i)
