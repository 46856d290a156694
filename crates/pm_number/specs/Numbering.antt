-- The hierarchy of a run: the vertices that are left, ascending, are the roots; the collapses in
-- reverse order are the records; leaves are numbered under the roots in turn, t before u; the base
-- faces are those that are left, ascending.
use Rattle.std.specs.Prelude.{◌≡◌, ℕ, zero, suc, ◌+◌, ◌-◌, ◌*◌, ◌<◌, ◌==◌, nat_lt, Bool, false}
use Rattle.std.specs.Prelude.{cond, ◌||◌, Option, Some, None, List, [], ◌∷◌, map, length, is_some}
use Rattle.std.specs.Prelude.{is_none, slice_index_or}
use Rattle.std.specs.List.{filter, range_with_len}
use Rattle.pm_base.specs.Place.{Place, place_of}
use Rattle.pm_base.specs.Counts.{one_if}
use Rattle.pm_base.specs.Meshes.{Mesh}
use Rattle.pm_base.specs.Sides.{find_below}
use Rattle.pm_base.specs.declared.ids.Side.{Side}
use Rattle.pm_base.specs.declared.log.Gone.{Gone}
use Rattle.pm_base.specs.declared.log.Collapse.{Collapse}
use Rattle.pm_forest.specs.declared.parts.Root.{Root}
use Rattle.pm_forest.specs.declared.parts.Face.{Face}
use Rattle.pm_forest.specs.declared.parts.Child.{Child}
use Rattle.pm_forest.specs.declared.parts.NewFace.{NewFace}
use Rattle.pm_forest.specs.declared.parts.Record.{Record}
use Rattle.pm_forest.specs.Forest.{Hierarchy}
use Rattle.pm_number.specs.Stages.{Run, run_of, steps, entry_at, side_by}

-- The position of v in a list, and the sum of f over what stands before it.
abbrev pub place_in : ℕ → List ℕ → ℕ
place_in v [] = 0
place_in v (x ∷ xs) = cond (v == x) 0 (suc (place_in v xs))

abbrev pub sum_before : (ℕ → ℕ) → ℕ → List ℕ → ℕ
sum_before f v [] = 0
sum_before f v (x ∷ xs) = cond (v == x) 0 (f x + sum_before f v xs)

-- Those of the n numbers from a on that pass.
abbrev pub picked : (ℕ → Bool) → ℕ → ℕ → List ℕ
picked p a n = filter p (range_with_len a n)

-- The collapse that takes vertex v, if one does, and the one that drops face f.
abbrev pub takes : Run → ℕ → ℕ → Bool
takes r v i = ((entry_at r i).t == v) || ((entry_at r i).u == v)

unfoldable pub taken_by : Run → ℕ → Option ℕ
taken_by r v = find_below (takes r v) (steps r)

abbrev pub is_gone : ℕ → Option Gone → Bool
is_gone f None = false
is_gone f (Some g) = g.face.0 == f

abbrev pub drops : Run → ℕ → ℕ → Bool
drops r f i = is_gone f (entry_at r i).left || is_gone f (entry_at r i).right

unfoldable pub dropped_by : Run → ℕ → Option ℕ
dropped_by r f = find_below (drops r f) (steps r)

-- The vertices and the faces that are left, ascending.
unfoldable pub left_over : Run → List ℕ
left_over r = picked (λ v. is_none (taken_by r v)) 0 (r.vertices + steps r)

unfoldable pub base_faces : Run → List ℕ
base_faces r = picked (λ f. is_none (dropped_by r f)) 0 r.net.faces

-- The collapse that becomes record k.
abbrev pub step_of : Run → ℕ → Collapse
step_of r k = entry_at r (steps r - suc k)

-- The node of vertex v.
abbrev pub node_at : Run → ℕ → Option ℕ → ℕ
node_at r v None = place_in v (left_over r)
node_at r v (Some i) =
    length (left_over r) + 2 * (steps r - suc i) + cond ((entry_at r i).t == v) 0 1

unfoldable pub node_number : Run → ℕ → ℕ
node_number r v = node_at r v (taken_by r v)

-- How many input vertices were merged in v, after the first i collapses and after all.
unfoldable pub width_after : Run → ℕ → ℕ → ℕ
width_after r zero v = 1
width_after r (suc i) v =
    let c = entry_at r i in
    cond (v == c.s) (width_after r i c.t + width_after r i c.u) (width_after r i v)

abbrev pub width_number : Run → ℕ → ℕ
width_number r v = width_after r (steps r) v

-- The first leaf under v, once the first d records have given their children.
unfoldable pub start_after : Run → ℕ → ℕ → ℕ
start_after r zero v = sum_before (width_number r) v (left_over r)
start_after r (suc d) v =
    let c = step_of r d in
    cond (v == c.t) (start_after r d c.s)
    (cond (v == c.u) (start_after r d c.s + width_number r c.t) (start_after r d v))

-- The leaf of input vertex x.
abbrev pub leaf_number : Run → ℕ → ℕ
leaf_number r x = start_after r (steps r) x

-- How many faces stand before those of record k.
unfoldable pub faces_before : Run → ℕ → ℕ
faces_before r zero = length (base_faces r)
faces_before r (suc k) = let c =
    step_of r k in faces_before r k + one_if (is_some c.left) + one_if (is_some c.right)

-- The number of input face f.
abbrev pub face_at : Run → ℕ → Option ℕ → ℕ
face_at r f None = place_in f (base_faces r)
face_at r f (Some i) =
    faces_before r (steps r - suc i) + cond (is_gone f (entry_at r i).left) 0
    (one_if (is_some (entry_at r i).left))

unfoldable pub face_number : Run → ℕ → ℕ
face_number r f = face_at r f (dropped_by r f)

-- The place of a vertex: that of an input vertex, or that of the collapse that made it.
unfoldable pub place_number : Run → ℕ → Place
place_number r v =
    cond (nat_lt v r.vertices) (slice_index_or r.points v (place_of []))
    (entry_at r (v - r.vertices)).place

-- The number of an input vertex from 1, and 0 for the others.
unfoldable pub input_number : Run → ℕ → ℕ
input_number r v = cond (nat_lt v r.vertices) (v + 1) 0

-- The units of the hierarchy.
abbrev pub numbered_face : Run → ℕ → Face
numbered_face r f = record {
  a = leaf_number r (r.net.from (3 * f));
  b = leaf_number r (r.net.from (3 * f + 1));
  c = leaf_number r (r.net.from (3 * f + 2));
  input = f + 1;
}

abbrev pub numbered_side : Run → Option Side → Option Side
numbered_side r None = None
numbered_side r (Some e) = Some (record { 0 = side_by (face_number r) e.0 })

abbrev pub numbered_gone : Run → Option Gone → Option NewFace
numbered_gone r None = None
numbered_gone r (Some g) = Some (record {
  face = numbered_face r g.face.0;
  first = numbered_side r g.first;
  second = numbered_side r g.second;
})

abbrev pub numbered_child : Run → ℕ → Child
numbered_child r v = record { place = place_number r v; input = input_number r v }

abbrev pub numbered_step : Run → ℕ → Record
numbered_step r k = let c = step_of r k in record {
  s = node_number r c.s;
  width = width_number r c.t;
  t = numbered_child r c.t;
  u = numbered_child r c.u;
  left = numbered_gone r c.left;
  right = numbered_gone r c.right;
}

abbrev pub numbered_root : Run → ℕ → Root
numbered_root r v = record {
  place = place_number r v;
  width = width_number r v;
  input = input_number r v;
}

abbrev pub hierarchy_of : Run → Hierarchy
hierarchy_of r = record {
  roots = map (numbered_root r) (left_over r);
  bases = map (numbered_face r) (base_faces r);
  records = map (numbered_step r) (range_with_len 0 (steps r));
}

-- The hierarchy of the run that a log tells of a mesh.
unfoldable pub hierarchy_of_run : Mesh → List Collapse → Hierarchy
hierarchy_of_run m log = hierarchy_of (run_of m log)

-- Vertex v is there after the first i collapses.
abbrev pub IsThereAfter : Run → ℕ → ℕ → Type 0
IsThereAfter r i v = (v < r.vertices + i) × ((j : ℕ) → j < i → takes r v j ≡ false)
