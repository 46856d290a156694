-- A hierarchy of vertex splits, and the interval of leaves of each of its nodes (Hoppe 1997, the
-- vertex forest).
use Rattle.std.specs.Prelude.{map, ◌≡◌, ◌≢◌, ℕ, ◌+◌, ◌*◌, ◌-◌, ◌<◌, ◌/◌, ◌==◌, nat_lt, nat_le, Bool}
use Rattle.std.specs.Prelude.{true, cond, ◌&&◌, List, [], ◌∷◌, length, sum, Option, None, Some, pos}
use Rattle.std.specs.Prelude.{slice_index_or, ◌⊎◌}
use Rattle.std.proofs.Common.{zero, suc}
use Rattle.pm_base.specs.Sides.{find_below}
use Rattle.pm_forest.specs.declared.parts.Root.{Root}
use Rattle.pm_forest.specs.declared.parts.Face.{Face}
use Rattle.pm_forest.specs.declared.parts.Child.{Child}
use Rattle.pm_forest.specs.declared.parts.Record.{Record}

-- Roots, base faces and records, in order.
pub record Hierarchy : Type 0 where
  pub roots : List Root
  pub bases : List Face
  pub records : List Record

abbrev pub no_child : Child
no_child = record { place = record { x = pos 0; y = pos 0; z = pos 0 }; input = 0 }

abbrev pub no_record : Record
no_record = record { s = 0; width = 0; t = no_child; u = no_child; left = None; right = None }

abbrev pub record_at : Hierarchy → ℕ → Record
record_at h k = slice_index_or h.records k no_record

abbrev pub record_count : Hierarchy → ℕ
record_count h = length h.records

-- The roots' numbers of leaves.
abbrev pub widths_of : List Root → List ℕ
widths_of roots = map (λ r. r.width) roots

abbrev pub widths : Hierarchy → List ℕ
widths h = widths_of h.roots

abbrev pub leaf_count : Hierarchy → ℕ
leaf_count h = sum (widths h)

-- The node that record k splits, and its two children: the roots come first, and then two nodes a
-- record.
unfoldable pub s_of : Hierarchy → ℕ → ℕ
s_of h k = (record_at h k).s

abbrev pub t_of : Hierarchy → ℕ → ℕ
t_of h k = length h.roots + 2 * k

abbrev pub u_of : Hierarchy → ℕ → ℕ
u_of h k = length h.roots + 2 * k + 1

abbrev pub node_count : Hierarchy → ℕ
node_count h = t_of h (record_count h)

-- The leaves from `from` to just before `until`.
pub record Interval : Type 0 where
  pub from : ℕ
  pub until : ℕ

abbrev pub within : Interval → ℕ → Bool
within i x = nat_le i.from x && nat_lt x i.until

-- Roots take consecutive intervals in order.
abbrev pub root_interval : List ℕ → ℕ → ℕ → Interval
root_interval [] start v = record { from = start; until = start }
root_interval (w ∷ ws) start zero = record { from = start; until = start + w }
root_interval (w ∷ ws) start (suc v) = root_interval ws (start + w) v

-- The root that leaf x is under.
abbrev pub root_of : List ℕ → ℕ → ℕ → ℕ
root_of [] start x = 0
root_of (w ∷ ws) start x = cond (nat_lt x (start + w)) 0 (suc (root_of ws (start + w) x))

-- Of an interval the first w leaves, and the leaves after them.
abbrev pub first_part : Interval → ℕ → Interval
first_part i w = record { from = i.from; until = i.from + w }

abbrev pub rest : Interval → ℕ → Interval
rest i w = record { from = i.from + w; until = i.until }

-- The interval of node v, where the first k records have given their children.
unfoldable pub interval_after : Hierarchy → ℕ → ℕ → Interval
interval_after h zero v = root_interval (widths h) 0 v
interval_after h (suc k) v =
    let parent = interval_after h k (s_of h k) in
    let old = interval_after h k v in
    cond (v == t_of h k) (first_part parent (record_at h k).width)
    (cond (v == u_of h k) (rest parent (record_at h k).width) old)

abbrev pub interval_of : Hierarchy → ℕ → Interval
interval_of h v = interval_after h (record_count h) v

-- Leaf x is under node v.
unfoldable pub holds : Hierarchy → ℕ → ℕ → Bool
holds h v x = within (interval_of h v) x

abbrev pub Holds : Hierarchy → ℕ → ℕ → Type 0
Holds h v x = holds h v x ≡ true

-- Record j made node v.
abbrev pub Makes : Hierarchy → ℕ → ℕ → Type 0
Makes h j v = (v ≡ t_of h j) ⊎ (v ≡ u_of h j)

-- The record that made node v; none for a root.
abbrev pub maker_of : Hierarchy → ℕ → Option ℕ
maker_of h v = cond (nat_lt v (length h.roots)) None (Some ((v - length h.roots) / 2))

-- The record that splits node v, if one does.
unfoldable pub splitter_of : Hierarchy → ℕ → Option ℕ
splitter_of h v = find_below (λ k. s_of h k == v) (record_count h)

-- What the rules of shape say of the nodes: a record splits an older node, no node is split twice,
-- and each child has at least one leaf of its parent's.
pub record HasForestShape (h : Hierarchy) : Type 0 where
  pub older : (k : ℕ) → k < record_count h → s_of h k < t_of h k
  pub once : (j k : ℕ) → j < k → k < record_count h → s_of h j ≢ s_of h k
  pub width : (k : ℕ) → k < record_count h → let i =
      interval_of h (s_of h k) in
      (0 < (record_at h k).width) × (i.from + (record_at h k).width < i.until)
