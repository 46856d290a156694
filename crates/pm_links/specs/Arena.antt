-- The arrays of a `Links`. The node of item x is x, and the node of head h is n + h. Each list is a
-- ring of links through the node of its head.
use Rattle.std.specs.Prelude.{◌≡◌, ℕ, zero, suc, ◌+◌, ◌<◌, ◌≤◌, true, nat_lt, List, [], ◌∷◌, length}
use Rattle.std.specs.Prelude.{map, slice_index, slice_index_or, if◌then◌else◌}
use Rattle.std.specs.List.{range_with_len}
use Rattle.pm_links.specs.declared.links.TheConstants.{LIMIT}
use Rattle.pm_links.specs.Lists.{has, IsOnce}

-- the links lead from node a through xs to node b, and back
abbrev pub IsLinked : List ℕ → List ℕ → ℕ → List ℕ → ℕ → Type 0
IsLinked next prev a [] b = (slice_index next a ≡ b) × (slice_index prev b ≡ a)
IsLinked next prev a (x ∷ xs) b =
    (slice_index next a ≡ x) × (slice_index prev x ≡ a) × IsLinked next prev x xs b

-- the items from node a on, up to the first node of a head; at most k
unfoldable pub walk_items : List ℕ → ℕ → ℕ → ℕ → List ℕ
walk_items next n zero a = []
walk_items next n (suc k) a = if nat_lt a n then a ∷ walk_items next n k (slice_index next a)
    else []

-- the list of each head
unfoldable pub lists_of : ℕ → ℕ → List ℕ → List (List ℕ)
lists_of n m next = map (λ h. walk_items next n n (slice_index next (n + h))) (range_with_len 0 m)

-- the arrays of n items and m heads hold the lists ls
pub record IsArena (n m : ℕ) (next prev owner : List ℕ) (ls : List (List ℕ)) : Type 0 where
  pub few_items : n ≤ LIMIT
  pub few_heads : m ≤ LIMIT
  pub heads : length ls ≡ m
  pub next_len : length next ≡ n + m
  pub prev_len : length prev ≡ n + m
  pub owner_len : length owner ≡ n
  pub linked : (h : ℕ) → h < m → IsLinked next prev (n + h) (slice_index_or ls h []) (n + h)
  pub once : (h : ℕ) → h < m → IsOnce (slice_index_or ls h [])
  pub in_range : (h x : ℕ) → h < m → has (slice_index_or ls h []) x ≡ true → x < n
  pub owned : (h x : ℕ) → h < m → has (slice_index_or ls h []) x ≡ true → slice_index owner x ≡ h
  pub listed : (x : ℕ) → x < n → slice_index owner x < m →
      has (slice_index_or ls (slice_index owner x) []) x ≡ true
