-- Fronts of a forest: active nodes and ancestors (Hoppe 1997). A set of records is a test on record
-- numbers.
use Rattle.std.specs.Prelude.{◌≡◌, ◌≢◌, ℕ, ◌<◌, ◌==◌, nat_lt, Bool, true, false, cond, not, ◌&&◌}
use Rattle.std.specs.Prelude.{Option, Some, None, length, ◌⊎◌}
use Rattle.std.proofs.Common.{zero, suc}
use Rattle.pm_forest.specs.Forest.{Hierarchy, widths, record_count, s_of, t_of, u_of, root_of}
use Rattle.pm_forest.specs.Forest.{holds, Makes, maker_of, splitter_of}

-- A set of records is a front if it has, with each record, the record that made the node that it
-- splits.
abbrev pub IsFront : Hierarchy → (ℕ → Bool) → Type 0
IsFront h T = (k j : ℕ) → k < record_count h → T k ≡ true → Makes h j (s_of h k) → T j ≡ true

-- Node v is a root, or a child of a split record.
abbrev pub IsThere : Hierarchy → (ℕ → Bool) → ℕ → Type 0
IsThere h T v = (v < length h.roots) ⊎ ((j : ℕ) × (j < record_count h) × (T j ≡ true) × Makes h j v)

-- A node is active if it is there and no split record splits it.
abbrev pub IsActive : Hierarchy → (ℕ → Bool) → ℕ → Type 0
IsActive h T v = IsThere h T v × ((k : ℕ) → k < record_count h → T k ≡ true → s_of h k ≢ v)

-- The same as a test: the record that made the node is split, if one made it, and the one that
-- splits it isn't.
abbrev pub made_in : (ℕ → Bool) → Option ℕ → Bool
made_in T None = true
made_in T (Some k) = T k

abbrev pub split_in : (ℕ → Bool) → Option ℕ → Bool
split_in T None = false
split_in T (Some k) = T k

unfoldable pub is_active : Hierarchy → (ℕ → Bool) → ℕ → Bool
is_active h T v = made_in T (maker_of h v) && not (split_in T (splitter_of h v))

-- The child of record k that leaf x goes to.
abbrev pub child_of : Hierarchy → ℕ → ℕ → ℕ
child_of h k x = cond (holds h (t_of h k) x) (t_of h k) (u_of h k)

-- The node of leaf x once those of the first k records that are in T are split, in ascending order.
unfoldable pub ancestor_after : Hierarchy → (ℕ → Bool) → ℕ → ℕ → ℕ
ancestor_after h T zero x = root_of (widths h) 0 x
ancestor_after h T (suc k) x = let v =
    ancestor_after h T k x in cond (T k && (s_of h k == v)) (child_of h k x) v

-- The ancestor of leaf x: the one active node that has it below it.
abbrev pub ancestor_of : Hierarchy → (ℕ → Bool) → ℕ → ℕ
ancestor_of h T x = ancestor_after h T (record_count h) x

-- All records.
abbrev pub every : ℕ → Bool
every k = true

-- No record.
abbrev pub no_records : ℕ → Bool
no_records k = false

-- The records below k.
abbrev pub below : ℕ → ℕ → Bool
below k j = nat_lt j k

-- The records of T and k, and those of T but k.
abbrev pub with : (ℕ → Bool) → ℕ → ℕ → Bool
with T k j = cond (j == k) true (T j)

abbrev pub without : (ℕ → Bool) → ℕ → ℕ → Bool
without T k j = cond (j == k) false (T j)
