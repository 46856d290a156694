-- The first records of a hierarchy as a hierarchy of its own. Its leaves are the nodes that are
-- active where those records are split and no other is.
use Rattle.std.specs.Prelude.{ℕ, ◌+◌, ◌-◌, ◌==◌, map, Bool, Option, None, Some, length}
use Rattle.std.specs.Prelude.{is_some, slice_index_or, if◌then◌else◌}
use Rattle.pm_base.specs.Counts.{count, numbers_below, one_if}
use Rattle.pm_forest.specs.declared.parts.Root.{Root}
use Rattle.pm_forest.specs.declared.parts.Face.{Face}
use Rattle.pm_forest.specs.declared.parts.Child.{Child}
use Rattle.pm_forest.specs.declared.parts.NewFace.{NewFace}
use Rattle.pm_forest.specs.declared.parts.Record.{Record}
use Rattle.pm_forest.specs.Forest.{Hierarchy, Interval, interval_of, record_at, t_of, u_of}
use Rattle.pm_forest.specs.Fronts.{ancestor_of, below}
use Rattle.pm_forest.specs.Faces.{first_face, no_face_corners}
use Rattle.pm_forest.specs.Places.{no_root}

-- Leaf x is the first of those below its ancestor, where the first n records are split.
unfoldable pub begins : Hierarchy → ℕ → ℕ → Bool
begins h n x = (interval_of h (ancestor_of h (below n) x)).from == x

-- How many active nodes begin before leaf x.
abbrev pub begun_before : Hierarchy → ℕ → ℕ → ℕ
begun_before h n x = count (begins h n) x

-- The new number of a leaf: that of its ancestor, in the order of leaves.
unfoldable pub leaf_in : Hierarchy → ℕ → ℕ → ℕ
leaf_in h n x = begun_before h n (x + 1) - 1

-- A node's leaves by their new numbers, and how many they are.
abbrev pub interval_in : Hierarchy → ℕ → Interval → Interval
interval_in h n i = record { from = begun_before h n i.from; until = begun_before h n i.until }

abbrev pub width_in : Hierarchy → ℕ → Interval → ℕ
width_in h n i = begun_before h n i.until - begun_before h n i.from

-- A node's number among the input's vertices, which come in the order of leaves; 0 for a node of
-- more leaves.
abbrev pub input_in : Hierarchy → ℕ → Interval → ℕ
input_in h n i = if width_in h n i == 1 then begun_before h n i.from + 1 else 0

-- Root v, with its new leaves.
unfoldable pub root_in : Hierarchy → ℕ → ℕ → Root
root_in h n v =
    let i = interval_of h v in record {
      place = (slice_index_or h.roots v no_root).place;
      width = width_in h n i;
      input = input_in h n i;
    }

-- Face f with the new leaves at its corners; the input's faces come in the order of their numbers.
abbrev pub face_in : Hierarchy → ℕ → ℕ → Face → Face
face_in h n f x = record {
  a = leaf_in h n x.a;
  b = leaf_in h n x.b;
  c = leaf_in h n x.c;
  input = f + 1;
}

-- A face that a record brings in, as face f, where it does.
abbrev pub new_face_in : Hierarchy → ℕ → ℕ → Option NewFace → Option NewFace
new_face_in h n f None = None
new_face_in h n f (Some x) = Some (record x { face = face_in h n f x.face })

-- A child of a record, which is node v.
abbrev pub child_in : Hierarchy → ℕ → ℕ → Child → Child
child_in h n v x = record { place = x.place; input = input_in h n (interval_of h v) }

-- Record k.
unfoldable pub record_in : Hierarchy → ℕ → ℕ → Record
record_in h n k =
    let r = record_at h k in record {
      s = r.s;
      width = width_in h n (interval_of h (t_of h k));
      t = child_in h n (t_of h k) r.t;
      u = child_in h n (u_of h k) r.u;
      left = new_face_in h n (first_face h k) r.left;
      right = new_face_in h n (first_face h k + one_if (is_some r.left)) r.right;
    }

-- Base face f.
unfoldable pub base_in : Hierarchy → ℕ → ℕ → Face
base_in h n f = face_in h n f (slice_index_or h.bases f no_face_corners)

-- Nodes, faces and neighbours keep their numbers, and places stand.
abbrev pub first_records : Hierarchy → ℕ → Hierarchy
first_records h n = record {
  roots = map (root_in h n) (numbers_below (length h.roots));
  bases = map (base_in h n) (numbers_below (length h.bases));
  records = map (record_in h n) (numbers_below n);
}
