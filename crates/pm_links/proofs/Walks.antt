-- The lists that a walk along the links gives are those that the arena holds.
use Rattle.std.proofs.Common.{◌≡◌, ℕ, zero, suc, ◌+◌, ◌-◌, ◌<◌, ◌≤◌, true, List, [], ◌∷◌, length}
use Rattle.std.proofs.lemmas.Grind.{common_steps}
use Rattle.std.proofs.Common.{get_or, map, sym, refl, ap, ◌∙◌, subst, ⊎_elim, arith}
use Rattle.std.specs.List.{range_with_len}
use Rattle.std.proofs.lemmas.List.FromFn.{length-map-range_with_len, get_or-map-range_with_len}
use Rattle.std.proofs.lemmas.List.{ext_get_or, get_or_past}
use Rattle.std.proofs.lemmas.Bool.{lt-ltb, le-ltb}
use Rattle.pm_links.specs.Lists.{Lists, has, IsSound}
use Rattle.pm_links.specs.Arena.{IsLinked, IsArena, walk_items, lists_of}
use Rattle.pm_links.proofs.Members.{has_head, has_tail, few_below}
use Rattle.pm_links.proofs.Outside.{low_head}

-- ---- a walk, one step on

pub walk_more : (next : List ℕ) (n i a : ℕ) → i < n → a < n →
    walk_items next n (n - i) a ≡ a ∷ walk_items next n (n - (i + 1)) (get_or next a 0)
unfolding walk_items
walk_more next n i a lt an =
    let e : n - i ≡ suc (n - (i + 1)) = omega arith in
    rw (e, lt-ltb a n an) refl

pub walk_stop : (next : List ℕ) (n k a : ℕ) → n ≤ a → walk_items next n k a ≡ []
unfolding walk_items
walk_stop next n zero a na = refl
walk_stop next n (suc k) a na = rw (le-ltb a n na) refl

pub walk_end : (next : List ℕ) (n i a : ℕ) → n ≤ i → walk_items next n (n - i) a ≡ []
unfolding walk_items
walk_end next n i a ni = let e : n - i ≡ 0 = omega arith in rw e refl

-- ---- a walk along a run gives it

walk-linked : (next prev : List ℕ) (n k a : ℕ) (xs : List ℕ) (b : ℕ) → length xs ≤ k → n ≤ b →
    ((x : ℕ) → has xs x ≡ true → x < n) → IsLinked next prev a xs b →
    walk_items next n k (get_or next a 0) ≡ xs
unfolding walk_items
walk-linked next prev n zero a [] b short nb low l = refl
walk-linked next prev n (suc k) a [] b short nb low l = rw (l.0, le-ltb b n nb) refl
walk-linked next prev n zero a (x ∷ xs) b short nb low l = absurd (omega arith)
walk-linked next prev n (suc k) a (x ∷ xs) b short nb low l =
    let xn : x < n = low x (has_head x xs) in
    let shorter : length xs ≤ k = omega arith in
    rw (
      l.0,
      lt-ltb x n xn,
      walk-linked next prev n k x xs b shorter nb
          (λ y h. low y (has_tail x xs y h)) l.2,
    ) refl

module _ {n m : ℕ} {next prev owner : List ℕ} {ls : List (List ℕ)}
    (a : IsArena n m next prev owner ls) where
  pub walk_list : (h : ℕ) → h < m → walk_items next n n (get_or next (n + h) 0) ≡ get_or ls h []
  walk_list h hm =
      let low : (x : ℕ) → has (get_or ls h []) x ≡ true → x < n = λ x i. a.in_range h x hm i in
      walk-linked next prev n n (n + h) (get_or ls h []) (n + h)
      (few_below n (get_or ls h []) (a.once h hm) low) (omega arith) low (a.linked h hm)

  -- a walk that knows only the node of the head comes to its end too
  pub walk_ring : (h : ℕ) → h < m → walk_items next (n + h) (n + h) (get_or next (n + h) 0)
      ≡ get_or ls h []
  walk_ring h hm =
      let low : (x : ℕ) → has (get_or ls h []) x ≡ true → x < n + h =
      λ x i. let lt : x < n = a.in_range h x hm i in omega arith in
      walk-linked next prev (n + h) (n + h) (n + h) (get_or ls h []) (n + h)
      (few_below (n + h) (get_or ls h []) (a.once h hm) low) (omega arith) low (a.linked h hm)

  pub walks : lists_of n m next ≡ ls
  unfolding lists_of
  walks =
      let f : ℕ → List ℕ = λ h. walk_items next n n (get_or next (n + h) 0) in
      ext_get_or [] (map f (range_with_len 0 m)) ls (length-map-range_with_len f 0 m ∙ sym a.heads)
      (λ i lt.
      let im : i < m = subst (λ (k : ℕ). i < k) (length-map-range_with_len f 0 m) lt in
      get_or-map-range_with_len f 0 m i i [] im (omega arith) ∙ walk_list i im)

  -- ---- what a `Links` owes at the end of a call

  -- the arena holds what its links give
  pub closed : IsArena n m next prev owner (lists_of n m next)
  closed = subst (λ (k : List (List ℕ)). IsArena n m next prev owner k) (sym walks) a

  -- what callers see are these lists
  pub seen : ◌≡◌ {A = Lists} (record { items = n; lists = lists_of n m next })
      (record { items = n; lists = ls })
  seen = ap (λ k. record { items = n; lists = k }) walks

  pub sound : IsSound (record { items = n; lists = ls })
  sound = grind (arith, common_steps, ⊎_elim, few_below n, get_or ls, get_or_past ls, low_head a)
