-- The bounds of nodes: how far what is under a node can be from the node's place, and which way its
-- faces look.
use Rattle.std.specs.Prelude.{◌≡◌, ℕ, zero, suc, ◌+◌, ◌<◌, max, List, [], ◌∷◌, length, map, Bool}
use Rattle.std.specs.Prelude.{◌||◌, Option, None, Some, pos, ◌+ℤ◌, ◌-ℤ◌, unwrap_or, slice_index_or}
use Rattle.std.specs.List.{filter}
use Rattle.pm_base.specs.Place.{Place, origin}
use Rattle.pm_base.specs.Geometry.{Direction, cross_of}
use Rattle.pm_base.specs.Rounded.{distance_of}
use Rattle.pm_forest.specs.declared.parts.Face.{Face}
use Rattle.pm_forest.specs.Forest.{Hierarchy, record_count, node_count, s_of, t_of, u_of, holds}
use Rattle.pm_forest.specs.Forest.{splitter_of}
use Rattle.pm_forest.specs.Faces.{faces_of}
use Rattle.pm_forest.specs.Places.{place_of_node}
use Rattle.pm_forest.specs.Meshes.{leaf_place}
use Rattle.pm_bounds.specs.declared.balls.Ball.{Ball}
use Rattle.pm_bounds.specs.declared.normal_box.NormalBox.{NormalBox}
use Rattle.pm_bounds.specs.Boxes.{box_of, zero_box}

-- The normal of a face of the input.
abbrev pub normal_of : Hierarchy → Face → Direction
normal_of h f = cross_of (leaf_place h f.a) (leaf_place h f.b) (leaf_place h f.c)

-- A face has a corner under node v.
abbrev pub has_corner_under : Hierarchy → ℕ → Face → Bool
has_corner_under h v f = holds h v f.a || holds h v f.b || holds h v f.c

-- The faces of the input that have a corner under node v, and their normals.
abbrev pub faces_under : Hierarchy → ℕ → List Face
faces_under h v = filter (has_corner_under h v) (faces_of h)

abbrev pub normals_under : Hierarchy → ℕ → List Direction
normals_under h v = map (normal_of h) (faces_under h v)

-- The greatest of a list of numbers; 0 where there is none.
abbrev pub greatest : List ℕ → ℕ
greatest [] = 0
greatest (n ∷ ns) = max n (greatest ns)

-- How far the farthest corner of a face is from the place of node v.
unfoldable pub reach : Hierarchy → ℕ → Face → ℕ
reach h v f =
    let d = λ (x : ℕ). distance_of (place_of_node h v) (leaf_place h x) in
    greatest (d f.a ∷ d f.b ∷ d f.c ∷ [])

-- How far the farthest corner of the faces at a leaf is from the place of the leaf's node.
abbrev pub leaf_radius : Hierarchy → ℕ → ℕ
leaf_radius h v = greatest (map (reach h v) (faces_under h v))

-- A number for the node that record k splits, by those of its children: the greater, over the two,
-- of the child's number and its distance.
abbrev pub over_children : Hierarchy → (ℕ → ℕ) → ℕ → ℕ
over_children h number k =
    let from = λ (child : ℕ). number child + distance_of (place_of_node h (s_of h k))
    (place_of_node h child) in
    max (from (t_of h k)) (from (u_of h k))

-- A number for node v: by its children, or a number of its own where no record splits it.
abbrev pub from_children : Hierarchy → (ℕ → ℕ) → (ℕ → ℕ) → ℕ → Option ℕ → ℕ
from_children h leaf number v None = leaf v
from_children h leaf number v (Some k) = over_children h number k

-- The same all the way up, where the way down from v passes at most n records.
unfoldable pub grown_in : Hierarchy → (ℕ → ℕ) → ℕ → ℕ → ℕ
grown_in h leaf zero v = leaf v
grown_in h leaf (suc n) v = from_children h leaf (grown_in h leaf n) v (splitter_of h v)

abbrev pub grown_from : Hierarchy → (ℕ → ℕ) → ℕ → ℕ
grown_from h leaf v = grown_in h leaf (record_count h) v

-- The error of node v: 0 for a leaf, and from the children for another node. No leaf under the node
-- is farther from it.
unfoldable pub error_of : Hierarchy → ℕ → ℕ
error_of h v = grown_from h (λ x. 0) v

-- The radius of node v, likewise, with the radius of a leaf as above. No corner of a face under the
-- node is farther from it.
unfoldable pub radius_of : Hierarchy → ℕ → ℕ
radius_of h v = grown_from h (leaf_radius h) v

-- The normal box of node v, none where no face has a corner under it; and as its readers see it.
unfoldable pub box_under : Hierarchy → ℕ → Option NormalBox
box_under h v = box_of (normals_under h v)

abbrev pub normal_box_of : Hierarchy → ℕ → NormalBox
normal_box_of h v = unwrap_or (box_under h v) zero_box

-- A box of places: on each axis the numbers from one to another.
pub record PointBox : Type 0 where
  pub low : Place
  pub high : Place

-- All places whose distance from p is at most r on each axis.
abbrev pub box_round : Place → ℕ → PointBox
box_round p r = record {
  low = record { x = p.x -ℤ pos r; y = p.y -ℤ pos r; z = p.z -ℤ pos r };
  high = record { x = p.x +ℤ pos r; y = p.y +ℤ pos r; z = p.z +ℤ pos r };
}

abbrev pub point_box_of : Hierarchy → ℕ → PointBox
point_box_of h v = box_round (place_of_node h v) (radius_of h v)

-- A ball at a place, of which no more is known yet.
abbrev pub bare_at : Place → Ball
bare_at p = record { place = p; error = 0; radius = 0 }

-- This is the ball of node v.
pub record IsBallOf (h : Hierarchy) (v : ℕ) (b : Ball) : Type 0 where
  pub place : b.place ≡ place_of_node h v
  pub error : b.error ≡ error_of h v
  pub radius : b.radius ≡ radius_of h v

-- The bounds of all nodes of a hierarchy, with their places, each list by node; and by record the
-- balls of the nodes that the records split.
pub record Bounds : Type 0 where
  pub places : List Place
  pub errors : List ℕ
  pub radii : List ℕ
  pub boxes : List (Option NormalBox)
  pub splits : List Ball

-- These are the bounds of h.
pub record AreBoundsOf (h : Hierarchy) (b : Bounds) : Type 0 where
  pub nodes : length b.errors ≡ node_count h
  pub records : length b.splits ≡ record_count h
  pub places : (v : ℕ) → v < node_count h → slice_index_or b.places v origin ≡ place_of_node h v
  pub errors : (v : ℕ) → v < node_count h → slice_index_or b.errors v 0 ≡ error_of h v
  pub radii : (v : ℕ) → v < node_count h → slice_index_or b.radii v 0 ≡ radius_of h v
  pub boxes : (v : ℕ) → v < node_count h → slice_index_or b.boxes v None ≡ box_under h v
  pub splits : (k : ℕ) → k < record_count h
      → IsBallOf h (s_of h k) (slice_index_or b.splits k (bare_at origin))
