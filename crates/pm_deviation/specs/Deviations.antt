-- The deviation of nodes: how far a node's place may be from the planes of the faces under it and
-- from the lines of the border there, and from these along an axis that meets them. On flat ground
-- and at straight borders it is small where the error isn't.
use Rattle.std.specs.Prelude.{◌≡◌, ℕ, zero, suc, ◌+◌, ◌*◌, ◌<◌, ◌==◌, ◌||◌, if◌then◌else◌, min, max}
use Rattle.std.specs.Prelude.{List, length, Bool, false, Option, None, Some, IfSome, is_some, pos}
use Rattle.std.specs.Prelude.{neg_ℤ, slice_index_or, ◌^◌, []}
use Rattle.std.specs.Int.{div_ceil}
use Rattle.pm_base.specs.Geometry.{Direction, square_of}
use Rattle.pm_base.specs.Rounded.{distance_of, root_up}
use Rattle.pm_forest.specs.Forest.{Hierarchy, record_count, node_count, s_of, t_of, u_of}
use Rattle.pm_forest.specs.Forest.{splitter_of}
use Rattle.pm_forest.specs.Places.{place_of_node}
use Rattle.pm_bounds.specs.Bounds.{Bounds, AreBoundsOf, error_of}
use Rattle.pm_deviation.specs.declared.unit_box.UnitBox.{UnitBox}
use Rattle.pm_deviation.specs.Spreads.{along, most_of}
use Rattle.pm_deviation.specs.Normals.{unit_box_of, cosine_of}
use Rattle.pm_deviation.specs.Borders.{has_border}
use Rattle.pm_deviation.specs.Lines.{way, line_box_of, line_cosine_of}
use Rattle.pm_deviation.specs.Farthest.{has_few_leaves, way_along, farthest_plane}

-- Three moves whose products with a direction are, but for the sign, the numbers of the cross
-- product of that direction and a move.
abbrev pub about_x : Direction → Direction
about_x m = record { x = pos 0; y = neg_ℤ m.z; z = m.y }

abbrev pub about_y : Direction → Direction
about_y m = record { x = m.z; y = pos 0; z = neg_ℤ m.x }

abbrev pub about_z : Direction → Direction
about_z m = record { x = neg_ℤ m.y; y = m.x; z = pos 0 }

-- The most that a move can go across directions of a box, rounded up.
abbrev pub across : UnitBox → Direction → ℕ
across b m =
    div_ceil (root_up (square_of (most_of (along b (about_x m)))
    + square_of (most_of (along b (about_y m))) + square_of (most_of (along b (about_z m))))) 16384

-- The most that the way from a child to its parent can go along the normals under the child. It is
-- no longer than the way.
abbrev pub plane_step : Hierarchy → ℕ → ℕ → ℕ
plane_step h parent child =
    way_along (unit_box_of h child) (place_of_node h parent) (place_of_node h child)

-- The most that it can go across the border sides under the child: 0 where there are none.
abbrev pub line_step : Hierarchy → ℕ → ℕ → ℕ
line_step h parent child =
    let p = place_of_node h parent in
    let q = place_of_node h child in
    min (distance_of p q) (across (line_box_of h child) (way p q))

-- The greater, over the two children of record k, of the child's number and its step.
abbrev pub over_steps : Hierarchy → (ℕ → ℕ → ℕ) → (ℕ → ℕ) → ℕ → ℕ
over_steps h step number k =
    let from = λ (child : ℕ). number child + step (s_of h k) child in
    max (from (t_of h k)) (from (u_of h k))

-- The plane deviation of the node that record k splits, by those of its children: where it has few
-- leaves, the greatest of theirs and the distance of the farthest plane under it.
abbrev pub over_planes : Hierarchy → (ℕ → ℕ) → ℕ → ℕ
over_planes h number k =
    if has_few_leaves h (s_of h k)
    then max (max (number (t_of h k)) (number (u_of h k))) (farthest_plane h (s_of h k))
    else over_steps h (plane_step h) number k

-- A number for a node: what `up` makes of the children's numbers where a record splits it, and 0
-- where none does.
abbrev pub from_record : ((ℕ → ℕ) → ℕ → ℕ) → (ℕ → ℕ) → Option ℕ → ℕ
from_record up number None = 0
from_record up number (Some k) = up number k

-- The same all the way up, where the way down from v passes at most n records.
unfoldable pub from_records_in : Hierarchy → ((ℕ → ℕ) → ℕ → ℕ) → ℕ → ℕ → ℕ
from_records_in h up zero v = 0
from_records_in h up (suc n) v = from_record up (from_records_in h up n) (splitter_of h v)

abbrev pub from_records : Hierarchy → ((ℕ → ℕ) → ℕ → ℕ) → ℕ → ℕ
from_records h up v = from_records_in h up (record_count h) v

-- How far the place of node v may be from the planes of the faces under it.
unfoldable pub plane_deviation_of : Hierarchy → ℕ → ℕ
plane_deviation_of h v = from_records h (over_planes h) v

-- How far it may be from the lines of the border sides with an end under it.
unfoldable pub line_deviation_of : Hierarchy → ℕ → ℕ
line_deviation_of h v = from_records h (over_steps h (line_step h)) v

-- A distance from planes or lines that stand so to an axis, measured along it.
abbrev pub tilted : ℕ → ℕ → ℕ
tilted distance cosine = div_ceil (16384 * distance) cosine

-- The deviation of node v: how far its place may be from a face under it, along the axis that these
-- faces look along most alike, and from the border under it likewise. Where they look, or the
-- border runs, opposite ways, as the faces of a thin wall do, it is the error; and it is never
-- above that.
unfoldable pub deviation_of : Hierarchy → ℕ → ℕ
deviation_of h v =
    if cosine_of h v == 0 || line_cosine_of h v == 0 then error_of h v
    else min (error_of h v)
    (max (tilted (plane_deviation_of h v) (cosine_of h v))
    (tilted (line_deviation_of h v) (line_cosine_of h v)))

-- The deviations of all nodes, by node, and whether the leaf mesh has a border.
pub record Deviations : Type 0 where
  pub by_node : List ℕ
  pub has_border : Bool

-- The bounds of all nodes, and their deviations where they were asked for.
pub record Measures : Type 0 where
  pub bounds : Bounds
  pub deviations : Option Deviations

abbrev pub has_deviations : Measures → Bool
has_deviations m = is_some m.deviations

-- The list of them; empty where there is none.
abbrev pub deviations_in : Option Deviations → List ℕ
deviations_in None = []
deviations_in (Some ds) = ds.by_node

-- Whether they tell of a border.
abbrev pub border_in : Option Deviations → Bool
border_in None = false
border_in (Some ds) = ds.has_border

-- One for each of so many nodes, and none is large.
pub record AreDeviationLists (nodes : ℕ) (deviations : List ℕ) : Type 0 where
  pub len : length deviations ≡ nodes
  pub small : (v : ℕ) → v < length deviations → slice_index_or deviations v 0 < 2 ^ 38

-- These are the deviations of h, and they tell whether it has a border.
pub record AreDeviationsOf (h : Hierarchy) (ds : Deviations) : Type 0 where
  pub nodes : length ds.by_node ≡ node_count h
  pub each : (v : ℕ) → v < node_count h → slice_index_or ds.by_node v 0 ≡ deviation_of h v
  pub border : ds.has_border ≡ has_border h

-- These are the measures of h.
pub record AreMeasuresOf (h : Hierarchy) (m : Measures) : Type 0 where
  pub bounds : AreBoundsOf h m.bounds
  pub deviations : IfSome m.deviations (AreDeviationsOf h)
