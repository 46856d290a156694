-- The laws of deviations, for a hierarchy of the right shape.
use Rattle.std.specs.Prelude.{◌≡◌, true, ℕ, ◌+◌, ◌*◌, ◌<◌, ◌≤◌, ◌⊎◌, max, ℤ, pos, ◌+ℤ◌, ◌*ℤ◌}
use Rattle.std.specs.Prelude.{unsigned_abs}
use Rattle.std.specs.List.{Contains}
use Rattle.pm_base.specs.Place.{Place}
use Rattle.pm_base.specs.Geometry.{dot_of, norm2_of, square_of, cross_of}
use Rattle.pm_base.specs.Sides.{face_of}
use Rattle.pm_forest.specs.declared.parts.Face.{Face}
use Rattle.pm_forest.specs.Forest.{Hierarchy, record_count, node_count, s_of, Holds, Makes}
use Rattle.pm_forest.specs.Faces.{face_count, corners_of, from_leaf, to_leaf}
use Rattle.pm_forest.specs.Places.{place_of_node}
use Rattle.pm_forest.specs.Rules.{HasShape}
use Rattle.pm_forest.specs.Meshes.{leaf_place}
use Rattle.pm_bounds.specs.Bounds.{normal_of, error_of}
use Rattle.pm_deviation.specs.declared.axes.Axis.{Axis}
use Rattle.pm_deviation.specs.declared.axes.TheConstants.{AXES}
use Rattle.pm_deviation.specs.Normals.{direction_of, cosine_of}
use Rattle.pm_deviation.specs.Borders.{is_border_side_under}
use Rattle.pm_deviation.specs.Lines.{way, side_way, line_cosine_of}
use Rattle.pm_deviation.specs.Deviations.{plane_deviation_of, line_deviation_of, deviation_of}

-- The value at a place of the plane that a face lies in: the distance from it times the length of
-- the normal.
abbrev pub value_of : Hierarchy → Face → Place → ℤ
value_of h f p = dot_of (normal_of h f) (way p (leaf_place h f.a))

-- Where a plane has this value and the squared length of its normal is n, the place is at most d
-- from it.
abbrev pub IsWithin : ℤ → ℕ → ℕ → Type 0
IsWithin value n d = square_of (unsigned_abs value) ≤ square_of d * n

-- A deviation is at most the error.
pub record IsBelowError (h : Hierarchy) (v : ℕ) : Type 0 where
  pub planes : plane_deviation_of h v ≤ error_of h v
  pub lines : line_deviation_of h v ≤ error_of h v
  pub deviation : deviation_of h v ≤ error_of h v

abbrev pub DeviationsAreBelowErrors : Type 0
DeviationsAreBelowErrors = (h : Hierarchy) → HasShape h → (v : ℕ) → v < node_count h
    → IsBelowError h v

-- Deviations grow from a child to its parent, and cosines fall.
pub record Grows (h : Hierarchy) (child parent : ℕ) : Type 0 where
  pub planes : plane_deviation_of h child ≤ plane_deviation_of h parent
  pub lines : line_deviation_of h child ≤ line_deviation_of h parent
  pub deviation : deviation_of h child ≤ deviation_of h parent
  pub cosine : cosine_of h parent ≤ cosine_of h child
  pub line_cosine : line_cosine_of h parent ≤ line_cosine_of h child

abbrev pub DeviationsGrow : Type 0
DeviationsGrow = (h : Hierarchy) → HasShape h → (k v : ℕ) → k < record_count h → Makes h k v
    → Grows h v (s_of h k)

-- Where a face has a corner under a node, the node's place is at most its plane deviation from the
-- plane of the face.
abbrev pub PlanesAreNear : Type 0
PlanesAreNear =
    (h : Hierarchy) → HasShape h → (v e : ℕ) → v < node_count h → e < 3 * face_count h
    → Holds h v (from_leaf h e)
    → let f = corners_of h (face_of e) in
    IsWithin (value_of h f (place_of_node h v)) (norm2_of (normal_of h f))
    (plane_deviation_of h v)

-- Three nodes have a corner each of one face under them, so in a front they show it.
pub record Show (h : Hierarchy) (f u v w : ℕ) : Type 0 where
  pub face : f < face_count h
  pub first : Holds h u (from_leaf h (3 * f))
  pub second : Holds h v (from_leaf h (3 * f + 1))
  pub third : Holds h w (from_leaf h (3 * f + 2))
  pub nodes : (u < node_count h) × (v < node_count h) × (w < node_count h)

-- Then each point of their triangle is at most the greatest of their plane deviations from the
-- plane of that face. The point has weights i, j and k: the plane's value there is this sum divided
-- by i + j + k.
abbrev pub TrianglesStayNear : Type 0
TrianglesStayNear =
    (h : Hierarchy) → HasShape h → (f u v w i j k : ℕ) → Show h f u v w
    → let value = λ (node : ℕ). value_of h (corners_of h f) (place_of_node h node) in
    let most = max (max (plane_deviation_of h u) (plane_deviation_of h v))
    (plane_deviation_of h w) in
    IsWithin (pos i *ℤ value u +ℤ pos j *ℤ value v +ℤ pos k *ℤ value w)
    (norm2_of (normal_of h (corners_of h f))) ((i + j + k) * most)

-- The line from the node's place along an axis meets the plane of each face that has a corner under
-- the node, if at all, at most this far away: s / w of the axis away is a place where the plane's
-- value is 0.
abbrev pub MeetsWithin : Hierarchy → ℕ → Axis → ℕ → Type 0
MeetsWithin h v u d =
    (e w : ℕ) (s : ℤ) → e < 3 * face_count h → Holds h v (from_leaf h e)
    → let f = corners_of h (face_of e) in
    pos w *ℤ value_of h f (place_of_node h v) +ℤ s *ℤ dot_of (normal_of h f) (direction_of u)
    ≡ pos 0
    → 0 < norm2_of (normal_of h f)
    → square_of (unsigned_abs s) * norm2_of (direction_of u) ≤ square_of (w * d)

-- The deviation is the error, or no line along one of the axes goes farther than it before it meets
-- these faces.
abbrev pub LinesMeetNear : Type 0
LinesMeetNear =
    (h : Hierarchy) → HasShape h → (v : ℕ) → v < node_count h
    → (deviation_of h v ≡ error_of h v)
    ⊎ ((u : Axis) × Contains AXES u × MeetsWithin h v u (deviation_of h v))

-- Where a border side has an end under a node, the node's place is at most its line deviation from
-- the line of the side: the cross product of the side with the way to the place is as long as that
-- distance times the side.
abbrev pub BorderLinesAreNear : Type 0
BorderLinesAreNear =
    (h : Hierarchy) → HasShape h → (v e : ℕ) → v < node_count h → e < 3 * face_count h
    → is_border_side_under h v e ≡ true →
    norm2_of (cross_of (leaf_place h (from_leaf h e)) (leaf_place h (to_leaf h e))
    (place_of_node h v))
    ≤ square_of (line_deviation_of h v) * norm2_of (side_way h e)

-- A deviation is at least how far a node's place may be from the planes and lines under it.
pub record IsAboveDistances (h : Hierarchy) (v : ℕ) : Type 0 where
  pub planes : plane_deviation_of h v ≤ deviation_of h v
  pub lines : line_deviation_of h v ≤ deviation_of h v

abbrev pub DeviationsAreAboveDistances : Type 0
DeviationsAreAboveDistances = (h : Hierarchy) → HasShape h → (v : ℕ) → v < node_count h
    → IsAboveDistances h v
