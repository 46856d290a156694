-- The laws of bounds, for a hierarchy of the right shape.
use Rattle.std.specs.Prelude.{◌≡◌, ℕ, ◌*◌, ◌<◌, ◌≤◌, ◌≤ℤ◌}
use Rattle.pm_base.specs.Geometry.{Direction, dist2_of}
use Rattle.pm_base.specs.Sides.{face_of}
use Rattle.pm_forest.specs.Forest.{Hierarchy, record_count, node_count, s_of, t_of, u_of}
use Rattle.pm_forest.specs.Forest.{interval_of, Holds, Makes}
use Rattle.pm_forest.specs.Faces.{face_count, corners_of, from_leaf}
use Rattle.pm_forest.specs.Places.{place_of_node}
use Rattle.pm_forest.specs.Rules.{HasShape}
use Rattle.pm_forest.specs.Tables.{IsSingle}
use Rattle.pm_forest.specs.Meshes.{leaf_place}
use Rattle.pm_bounds.specs.declared.normal_box.NormalBox.{NormalBox}
use Rattle.pm_bounds.specs.Boxes.{join}
use Rattle.pm_bounds.specs.Bounds.{normal_of, leaf_radius, over_children, error_of, radius_of}
use Rattle.pm_bounds.specs.Bounds.{box_under, normal_box_of}

-- The two equations of a number that grows from the leaves up: a node of one leaf has a number of
-- its own, and another node has one by its children.
pub record Grows (h : Hierarchy) (leaf number : ℕ → ℕ) : Type 0 where
  pub leaves : (v : ℕ) → v < node_count h → IsSingle (interval_of h v) → number v ≡ leaf v
  pub splits : (k : ℕ) → k < record_count h → number (s_of h k) ≡ over_children h number k

abbrev pub ErrorsGrow : Type 0
ErrorsGrow = (h : Hierarchy) → HasShape h → Grows h (λ v. 0) (error_of h)

abbrev pub RadiiGrow : Type 0
RadiiGrow = (h : Hierarchy) → HasShape h → Grows h (leaf_radius h) (radius_of h)

-- The box of a node that is split is that of its children's boxes.
abbrev pub BoxesJoin : Type 0
BoxesJoin = (h : Hierarchy) → HasShape h → (k : ℕ) → k < record_count h
    → box_under h (s_of h k) ≡ join (box_under h (t_of h k)) (box_under h (u_of h k))

-- No leaf under a node is farther from it than its error.
abbrev pub LeavesAreCovered : Type 0
LeavesAreCovered =
    (h : Hierarchy) → HasShape h → (v x : ℕ) → v < node_count h → Holds h v x
    → dist2_of (place_of_node h v) (leaf_place h x) ≤ error_of h v * error_of h v

-- Where a face has a corner under a node, no corner of the face is farther from the node than its
-- radius. Corner i of face f is where side 3f + i begins.
abbrev pub CornersAreCovered : Type 0
CornersAreCovered =
    (h : Hierarchy) → HasShape h → (v under e : ℕ) → v < node_count h → e < 3 * face_count h
    → face_of under ≡ face_of e → Holds h v (from_leaf h under)
    → dist2_of (place_of_node h v) (leaf_place h (from_leaf h e)) ≤ radius_of h v * radius_of h v

-- A normal is in a box.
pub record IsIn (n : Direction) (b : NormalBox) : Type 0 where
  pub low_x : b.low.x ≤ℤ n.x
  pub low_y : b.low.y ≤ℤ n.y
  pub low_z : b.low.z ≤ℤ n.z
  pub high_x : n.x ≤ℤ b.high.x
  pub high_y : n.y ≤ℤ b.high.y
  pub high_z : n.z ≤ℤ b.high.z

-- Where a face has a corner under a node, its normal is in the node's box.
abbrev pub NormalsAreBoxed : Type 0
NormalsAreBoxed =
    (h : Hierarchy) → HasShape h → (v e : ℕ) → e < 3 * face_count h → Holds h v (from_leaf h e)
    → IsIn (normal_of h (corners_of h (face_of e))) (normal_box_of h v)

-- Each node that a record made has a corner of some face under it. A root may have none.
abbrev pub ChildrenHaveFaces : Type 0
ChildrenHaveFaces =
    (h : Hierarchy) → HasShape h → (k v : ℕ) → k < record_count h → Makes h k v
    → (e : ℕ) × (e < 3 * face_count h) × Holds h v (from_leaf h e)

-- Box a has at least one normal, and all its normals are in box b.
pub record IsNested (a b : NormalBox) : Type 0 where
  pub low_x : b.low.x ≤ℤ a.low.x
  pub low_y : b.low.y ≤ℤ a.low.y
  pub low_z : b.low.z ≤ℤ a.low.z
  pub high_x : a.high.x ≤ℤ b.high.x
  pub high_y : a.high.y ≤ℤ b.high.y
  pub high_z : a.high.z ≤ℤ b.high.z
  pub box_x : a.low.x ≤ℤ a.high.x
  pub box_y : a.low.y ≤ℤ a.high.y
  pub box_z : a.low.z ≤ℤ a.high.z

-- The box of a node that a record made lies in that of the node that the record splits.
abbrev pub BoxesNest : Type 0
BoxesNest = (h : Hierarchy) → HasShape h → (k v : ℕ) → k < record_count h → Makes h k v
    → IsNested (normal_box_of h v) (normal_box_of h (s_of h k))
