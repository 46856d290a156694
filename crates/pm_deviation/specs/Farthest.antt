-- Nodes with few leaves under them: which of the planes of the faces under such a node is the
-- farthest from its place.
use Rattle.std.specs.Prelude.{◌≡◌, ℕ, ◌-◌, ◌*◌, ◌<◌, nat_le, Bool, true, min, max, map, List}
use Rattle.std.specs.Prelude.{pos, length, slice_index_or, if◌then◌else◌, Option, None, Some}
use Rattle.std.specs.List.{filter, range_with_len}
use Rattle.std.specs.Option.{unwrap_or, option_and_then, option_map}
use Rattle.pm_base.specs.declared.ids.NodeId.{NodeId}
use Rattle.pm_base.specs.Place.{Place}
use Rattle.pm_base.specs.Rounded.{distance_of}
use Rattle.pm_base.specs.Sides.{face_of}
use Rattle.pm_forest.specs.Forest.{Hierarchy, interval_of, node_count, holds}
use Rattle.pm_forest.specs.Forest.{s_of, maker_of}
use Rattle.pm_forest.specs.Faces.{face_count, corners_of, from_leaf}
use Rattle.pm_forest.specs.Meshes.{leaf_place}
use Rattle.pm_forest.specs.Places.{place_of_node}
use Rattle.pm_bounds.specs.Bounds.{normal_of, greatest}
use Rattle.pm_bounds.specs.Tables.{AreAtMost}
use Rattle.pm_deviation.specs.declared.farthest.TheConstants.{FEW_LEAVES}
use Rattle.pm_deviation.specs.declared.farthest.Rung.{Rung}
use Rattle.pm_deviation.specs.declared.unit_box.UnitBox.{UnitBox}
use Rattle.pm_deviation.specs.Spreads.{no_spread, most_along}
use Rattle.pm_deviation.specs.Normals.{unit_box}
use Rattle.pm_deviation.specs.Lines.{way}

-- How many leaves are under node v.
abbrev pub leaves_under : Hierarchy → ℕ → ℕ
leaves_under h v = (interval_of h v).until - (interval_of h v).from

-- No more than 64.
unfoldable pub has_few_leaves : Hierarchy → ℕ → Bool
has_few_leaves h v = nat_le (leaves_under h v) FEW_LEAVES

-- The node above node v, where it has few leaves.
abbrev pub few_above : Hierarchy → ℕ → Option ℕ
few_above h v =
    option_and_then (λ k. if has_few_leaves h (s_of h k) then Some (s_of h k) else None)
    (maker_of h v)

-- A face's normal in parts of its own length; 0 on each axis where it has no area.
abbrev pub no_box : UnitBox
no_box = record { x = no_spread; y = no_spread; z = no_spread }

abbrev pub face_box : Hierarchy → ℕ → UnitBox
face_box h f = unwrap_or (unit_box (normal_of h (corners_of h f))) no_box

-- The most that the way from q to p can go along normals of a box. It is no longer than the way.
abbrev pub way_along : UnitBox → Place → Place → ℕ
way_along b p q = min (distance_of p q) (most_along b (way p q))

-- How far the place of node v may be from a plane through leaf x, by the normals of a box.
unfoldable pub plane_through : Hierarchy → UnitBox → ℕ → ℕ → ℕ
plane_through h b x v = way_along b (place_of_node h v) (leaf_place h x)

-- How far it may be from the plane of the face at corner e.
abbrev pub plane_distance : Hierarchy → ℕ → ℕ → ℕ
plane_distance h v e = plane_through h (face_box h (face_of e)) (from_leaf h e) v

-- Of the first n corners of faces those under node v, and the greatest of these distances.
abbrev pub corners_under : Hierarchy → ℕ → ℕ → List ℕ
corners_under h v n = filter (λ e. holds h v (from_leaf h e)) (range_with_len 0 n)

unfoldable pub farthest_of : Hierarchy → ℕ → ℕ → ℕ
farthest_of h v n = greatest (map (plane_distance h v) (corners_under h v n))

-- How far the place of node v may be from the planes of the faces under it.
abbrev pub farthest_plane : Hierarchy → ℕ → ℕ
farthest_plane h v = farthest_of h v (3 * face_count h)

-- A rung has the place of node v, and the node above it, where that has few leaves.
pub record IsRung (h : Hierarchy) (v : ℕ) (r : Rung) : Type 0 where
  pub place : r.place ≡ place_of_node h v
  pub above : option_map (λ (n : NodeId). n.0) r.above ≡ few_above h v

abbrev pub no_rung : Rung
no_rung = record { place = record { x = pos 0; y = pos 0; z = pos 0 }; above = None }

-- The rungs of the first n nodes.
pub record AreRungs (h : Hierarchy) (n : ℕ) (rs : List Rung) : Type 0 where
  pub len : length rs ≡ n
  pub each : (v : ℕ) → v < n → IsRung h v (slice_index_or rs v no_rung)

-- Of the nodes with few leaves those above leaf x have numbers of their own or greater ones, and no
-- other has another number than before.
abbrev pub AreRaised : Hierarchy → ℕ → (ℕ → ℕ) → List ℕ → List ℕ → Type 0
AreRaised h x own old new = (v : ℕ) → v < node_count h → has_few_leaves h v ≡ true
    → let before = slice_index_or old v 0 in
    slice_index_or new v 0 ≡ (if holds h v x then max before (own v) else before)

-- A table has, for each node with few leaves, the greatest of these distances for the first n
-- corners.
pub record AreFarthestOf (h : Hierarchy) (n : ℕ) (table : List ℕ) : Type 0 where
  pub nodes : length table ≡ node_count h
  pub each : (v : ℕ) → v < node_count h → has_few_leaves h v ≡ true
      → slice_index_or table v 0 ≡ farthest_of h v n
  pub small : AreAtMost 113509 table

abbrev pub AreFarthestPlanes : Hierarchy → List ℕ → Type 0
AreFarthestPlanes h table = AreFarthestOf h (3 * face_count h) table
