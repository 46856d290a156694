-- What the tables keep while deviations are found.
use Rattle.std.specs.Prelude.{◌≡◌, ℕ, ◌<◌, ◌≤◌, nat_le, Bool, ◌&&◌, None, List, length, map}
use Rattle.std.specs.Prelude.{Option, IfSome, unsigned_abs, slice_index_or}
use Rattle.std.specs.List.{filter}
use Rattle.std.specs.Option.{option_map}
use Rattle.pm_base.specs.Geometry.{norm2_of}
use Rattle.pm_forest.specs.declared.parts.Face.{Face}
use Rattle.pm_forest.specs.Forest.{Hierarchy, node_count, leaf_count, record_count, splitter_of}
use Rattle.pm_forest.specs.Forest.{s_of, t_of, u_of}
use Rattle.pm_forest.specs.Faces.{corners_of}
use Rattle.pm_bounds.specs.Bounds.{normal_of, has_corner_under}
use Rattle.pm_deviation.specs.declared.axes.Axis.{Axis}
use Rattle.pm_deviation.specs.declared.heading.Heading.{Heading}
use Rattle.pm_deviation.specs.declared.spread.Spread.{Spread}
use Rattle.pm_deviation.specs.declared.unit_box.UnitBox.{UnitBox}
use Rattle.pm_deviation.specs.Spreads.{join, joined_all, along}
use Rattle.pm_deviation.specs.Normals.{direction_of, unit_box, x_axis, y_axis, z_axis}
use Rattle.pm_deviation.specs.Deviations.{plane_deviation_of, line_deviation_of}

-- A table has the value of each node, and d stands for what it doesn't have.
pub record AreOfNodes {A : Type 0} (h : Hierarchy) (d : A) (value : ℕ → A) (table : List A) : Type 0
  where
    pub nodes : length table ≡ node_count h
    pub each : (v : ℕ) → v < node_count h → slice_index_or table v d ≡ value v

-- The same of the nodes that no record splits alone.
abbrev pub AreOwn : {A : Type 0} → Hierarchy → A → (ℕ → A) → List A → Type 0
AreOwn h d value table = (v : ℕ) → v < node_count h → splitter_of h v ≡ None
    → slice_index_or table v d ≡ value v

-- The spread of a node that is split is that of its children together.
abbrev pub AreJoined : Hierarchy → (ℕ → Option Spread) → Type 0
AreJoined h value = (k : ℕ) → k < record_count h → value (s_of h k)
    ≡ join (value (t_of h k)) (value (u_of h k))

-- The spreads along the three axes of space.
pub record AreSpaceSpreads (h : Hierarchy) (spread : Axis → ℕ → Option Spread)
    (x y z : List (Option Spread)) : Type 0 where
  pub along_x : AreOfNodes h None (spread x_axis) x
  pub along_y : AreOfNodes h None (spread y_axis) y
  pub along_z : AreOfNodes h None (spread z_axis) z

abbrev pub ArePlaneDeviations : Hierarchy → List ℕ → Type 0
ArePlaneDeviations h table = AreOfNodes h 0 (plane_deviation_of h) table

abbrev pub AreLineDeviations : Hierarchy → List ℕ → Type 0
AreLineDeviations h table = AreOfNodes h 0 (line_deviation_of h) table

-- No number of a spread is farther from 0 than m.
abbrev pub IsSpreadWithin : ℕ → Spread → Type 0
IsSpreadWithin m s = (unsigned_abs s.low ≤ m) × (unsigned_abs s.high ≤ m)

-- Parts of a normal along three axes, each of which is no longer than the normal; and what they add
-- up to along an axis.
abbrev pub IsPart : Spread → Type 0
IsPart s = IsSpreadWithin 16384 s

abbrev pub IsSum : Spread → Type 0
IsSum s = IsSpreadWithin 49152 s

abbrev pub IsUnitBox : UnitBox → Type 0
IsUnitBox b = IsPart b.x × IsPart b.y × IsPart b.z

-- The leaves of a heading, as corners of a face.
abbrev pub leaves_of : Heading → Face
leaves_of d = record { a = d.a; b = d.b; c = d.c; input = 0 }

abbrev pub no_heading : Heading
no_heading = record { a = 0; b = 0; c = 0; parts = None }

-- What a heading has along an axis.
abbrev pub heading_along : Axis → Heading → Option Spread
heading_along u d = option_map (λ b. along b (direction_of u)) d.parts

-- The same of those of a list that have a leaf under node v.
unfoldable pub spread_among : Hierarchy → List Heading → Axis → ℕ → Option Spread
spread_among h ds u v =
    joined_all (map (heading_along u) (filter (λ d. has_corner_under h v (leaves_of d)) ds))

-- A heading of leaves of h.
pub record IsHeading (h : Hierarchy) (d : Heading) : Type 0 where
  pub a_leaf : d.a < leaf_count h
  pub b_leaf : d.b < leaf_count h
  pub c_leaf : d.c < leaf_count h
  pub small : IfSome d.parts IsUnitBox

abbrev pub AreHeadings : Hierarchy → List Heading → Type 0
AreHeadings h ds = (i : ℕ) → i < length ds → IsHeading h (slice_index_or ds i no_heading)

-- The heading of face f, and those of the first n faces.
pub record IsFaceHeading (h : Hierarchy) (f : ℕ) (d : Heading) : Type 0 where
  pub a : d.a ≡ (corners_of h f).a
  pub b : d.b ≡ (corners_of h f).b
  pub c : d.c ≡ (corners_of h f).c
  pub parts : d.parts ≡ unit_box (normal_of h (corners_of h f))

pub record AreOfFaces (h : Hierarchy) (n : ℕ) (ds : List Heading) : Type 0 where
  pub len : length ds ≡ n
  pub each : (f : ℕ) → f < n → IsFaceHeading h f (slice_index_or ds f no_heading)

-- These have the spreads of all nodes.
abbrev pub HaveSpreads : Hierarchy → (Axis → ℕ → Option Spread) → List Heading → Type 0
HaveSpreads h spread ds = (u : Axis) (v : ℕ) → spread_among h ds u v ≡ spread u v

-- The numbers of an axis are -1, 0 and 1, not all 0.
abbrev pub is_axis : Axis → Bool
is_axis u = nat_le (unsigned_abs u.x) 1 && nat_le (unsigned_abs u.y) 1 && nat_le (unsigned_abs u.z)
    1 && nat_le 1 (norm2_of (direction_of u))
