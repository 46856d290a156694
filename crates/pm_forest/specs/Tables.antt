-- The tables that stand beside a forest that grows.
use Rattle.std.specs.Prelude.{◌≡◌, ℕ, ◌+◌, ◌*◌, ◌<◌, ◌≤◌, List, [], ◌∷◌, ◌++◌, replicate, length}
use Rattle.std.specs.Prelude.{sum, Bool, false, min, Option, None, Some, is_some, slice_index_or}
use Rattle.std.specs.Prelude.{if◌then◌else◌, ◌⊎◌}
use Rattle.pm_base.specs.declared.limits.TheConstants.{MOST_FACES, MOST_VERTICES}
use Rattle.pm_base.specs.Held.{Held}
use Rattle.pm_base.specs.Counts.{one_if}
use Rattle.pm_forest.specs.declared.parts.Counts.{Counts}
use Rattle.pm_forest.specs.declared.parts.Root.{Root}
use Rattle.pm_forest.specs.declared.parts.Face.{Face}
use Rattle.pm_forest.specs.declared.parts.NewFace.{NewFace}
use Rattle.pm_forest.specs.declared.parts.Record.{Record}
use Rattle.pm_forest.specs.Forest.{Hierarchy, Interval, widths_of, leaf_count, node_count}
use Rattle.pm_forest.specs.Forest.{interval_of, splitter_of, HasForestShape}
use Rattle.pm_forest.specs.Fronts.{ancestor_of, every}
use Rattle.pm_forest.specs.Faces.{faces_of, face_count, revealed_by}
use Rattle.pm_forest.specs.Rules.{with_record}

-- The limits, the whole units so far, and a record some of whose faces may still come.
pub record Grown : Type 0 where
  pub counts : Counts
  pub h : Hierarchy
  pub coming : Option Record

-- All units so far, the coming record last.
abbrev pub all_of : Hierarchy → Option Record → Hierarchy
all_of h None = h
all_of h (Some r) = with_record h r

abbrev pub grown : Grown → Hierarchy
grown g = all_of g.h g.coming

-- The number of its root for each leaf, where the first of these roots has the number i.
abbrev pub owners_from : ℕ → List ℕ → List ℕ
owners_from i [] = []
owners_from i (w ∷ ws) = replicate w i ++ owners_from (i + 1) ws

abbrev pub IsIntervalAt : List (ℕ × ℕ) → ℕ → Interval → Type 0
IsIntervalAt table v i =
    ((slice_index_or table v (0, 0)).0 ≡ i.from) × ((slice_index_or table v (0, 0)).1 ≡ i.until)

-- An interval of one leaf.
abbrev pub IsSingle : Interval → Type 0
IsSingle i = i.until ≡ i.from + 1

-- The node of a leaf, once all records are split.
abbrev pub leaf_node_of : Hierarchy → ℕ → ℕ
leaf_node_of h x = ancestor_of h every x

-- What the tables have: the leaves of each node and the record that splits it, the node of each
-- leaf that has one of its own, and the faces with the records that reveal them.
pub record AreTables (h : Hierarchy) (intervals : List (ℕ × ℕ)) (splitters : List (Option ℕ))
    (leaf_nodes : List ℕ) (faces : List Face) (revealed : List (Option ℕ)) : Type 0 where
  pub spans : (v : ℕ) → v < node_count h → IsIntervalAt intervals v (interval_of h v)
  pub split : (v : ℕ) → v < length splitters → slice_index_or splitters v None ≡ splitter_of h v
  pub leaves : (x : ℕ) → x < leaf_count h → IsSingle (interval_of h (leaf_node_of h x))
      → slice_index_or leaf_nodes x 0 ≡ leaf_node_of h x
  pub faces_are : faces ≡ faces_of h
  pub face_len : length faces ≡ face_count h
  pub revealed_len : length revealed ≡ face_count h
  pub revealed_are : (f : ℕ) → f < face_count h → slice_index_or revealed f None ≡ revealed_by h f

-- The hierarchy of these units, the coming record last.
abbrev pub units : List Root → List Face → List Record → Option Record → Hierarchy
units roots bases records coming = all_of
    (record { roots = roots; bases = bases; records = records }) coming

-- How many records there are, the coming one among them.
abbrev pub record_total : List Record → Option Record → ℕ
record_total records coming = length records + one_if (is_some coming)

-- The roots come first, then the base faces, and then the records.
pub record AreTakenInOrder (c : Counts) (roots bases records : ℕ) : Type 0 where
  pub roots_first : (roots ≡ c.roots) ⊎ (bases + records ≡ 0)
  pub bases_first : (bases ≡ c.bases) ⊎ (records ≡ 0)

-- The lists of a forest that grows, with its limits and the coming record.
pub record Parts : Type 0 where
  pub counts : Counts
  pub roots : Held Root
  pub bases : Held Face
  pub records : Held Record
  pub coming : Option Record
  pub owners : Held ℕ
  pub intervals : List (ℕ × ℕ)
  pub splitters : List (Option ℕ)
  pub leaf_nodes : List ℕ
  pub faces : Held Face
  pub revealed : Held (Option ℕ)

abbrev pub units_in : Parts → Hierarchy
units_in p = units p.roots.items p.bases.items p.records.items p.coming

-- As many faces as the limits allow.
abbrev pub most_faces : Counts → ℕ
most_faces c = min (c.bases + 2 * c.records) MOST_FACES

-- There is no more of anything than the limits allow, whatever may still come has its room, and the
-- tables are those of all units so far.
pub record IsGrowing (p : Parts) : Type 0 where
  pub leaf_most : p.counts.leaves ≤ MOST_VERTICES
  pub base_most : p.counts.bases ≤ MOST_FACES
  pub all_leaves : p.counts.roots + p.counts.records ≡ p.counts.leaves
  pub root_most : length p.roots.items ≤ p.counts.roots
  pub root_room : p.counts.roots ≤ length p.roots.items + p.roots.spare
  pub base_count : length p.bases.items ≤ p.counts.bases
  pub base_room : p.counts.bases ≤ length p.bases.items + p.bases.spare
  pub record_most : record_total p.records.items p.coming ≤ p.counts.records
  pub record_room : p.counts.records ≤ length p.records.items + p.records.spare
  pub order : AreTakenInOrder p.counts (length p.roots.items) (length p.bases.items)
      (record_total p.records.items p.coming)
  pub owned : p.owners.items ≡ owners_from 0 (widths_of p.roots.items)
  pub owner_len : length p.owners.items ≡ sum (widths_of p.roots.items)
  pub owner_most : length p.owners.items ≤ p.counts.leaves
  pub owner_room : p.counts.leaves ≤ length p.owners.items + p.owners.spare
  pub interval_len : length p.intervals ≡ p.counts.roots + 2 * p.counts.records
  pub splitter_len : length p.splitters ≡ p.counts.roots + 2 * p.counts.records
  pub leaf_node_len : length p.leaf_nodes ≡ p.counts.leaves
  pub face_most : length p.faces.items ≤ MOST_FACES
  pub face_total : length p.faces.items ≤ length p.bases.items + 2 * record_total p.records.items
      p.coming
  pub face_room : most_faces p.counts ≤ length p.faces.items + p.faces.spare
  pub revealed_room : most_faces p.counts ≤ length p.faces.items + p.revealed.spare
  pub shape : HasForestShape (units_in p)
  pub tables : AreTables (units_in p) p.intervals p.splitters p.leaf_nodes p.faces.items
      p.revealed.items

-- A record none of whose faces are there yet.
abbrev pub WithoutFaces : Record → Type 0
WithoutFaces r = (is_some r.left ≡ false) × (is_some r.right ≡ false)

-- The record with one face more.
abbrev pub with_new_face : Record → Bool → NewFace → Record
with_new_face r left f = if left then record r { left = Some f } else record r { right = Some f }
