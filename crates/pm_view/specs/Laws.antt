-- The laws of wanted nodes, for a hierarchy of the right shape.
use Rattle.std.specs.Prelude.{◌≡◌, ℕ, ◌*◌, ◌<◌, ◌≤◌, ◌⊎◌, true, false, not, ◌&&◌, pos, ◌-ℤ◌}
use Rattle.std.specs.Prelude.{◌<ℤ◌, unsigned_abs}
use Rattle.std.specs.List.{Contains}
use Rattle.pm_base.specs.Place.{Place}
use Rattle.pm_base.specs.Geometry.{Direction, dot_of, dist2_of, norm2_of, square_of}
use Rattle.pm_base.specs.Sides.{face_of}
use Rattle.pm_forest.specs.Forest.{Hierarchy, record_count, node_count, s_of, Holds, Makes}
use Rattle.pm_forest.specs.Faces.{face_count, corners_of, from_leaf}
use Rattle.pm_forest.specs.Places.{place_of_node}
use Rattle.pm_forest.specs.Rules.{HasShape}
use Rattle.pm_forest.specs.Meshes.{leaf_place}
use Rattle.pm_bounds.specs.Bounds.{normal_of}
use Rattle.pm_deviation.specs.Borders.{has_border}
use Rattle.pm_deviation.specs.Laws.{value_of}
use Rattle.pm_view.specs.declared.measure.Measure.{Measure}
use Rattle.pm_view.specs.declared.measure.Measure.TheVariants as measures
use Rattle.pm_view.specs.declared.plane.Plane.{Plane}
use Rattle.pm_view.specs.Views.{View}
use Rattle.pm_view.specs.Wanted.{value_at, bounded, is_outside_any, may_be_seen, looks_large}
use Rattle.pm_view.specs.Wanted.{is_wanted}

-- From q to p.
abbrev pub way : Place → Place → Direction
way p q = record { x = p.x -ℤ q.x; y = p.y -ℤ q.y; z = p.z -ℤ q.z }

-- Side e begins at a corner of a face that has a corner under node v.
pub record IsCornerNear (h : Hierarchy) (v e : ℕ) : Type 0 where
  pub under : ℕ
  pub side : e < 3 * face_count h
  pub same_face : face_of under ≡ face_of e
  pub held : Holds h v (from_leaf h under)

-- All these corners lie behind one of the view's planes.
abbrev pub IsBehind : Hierarchy → View → ℕ → Type 0
IsBehind h view v =
    (f : Plane) × Contains view.planes f
    × ((e : ℕ) → IsCornerNear h v e → value_at f (leaf_place h (from_leaf h e)) <ℤ pos 0)

-- Each of their faces is turned away from the eye, at each of its corners.
abbrev pub IsTurnedAway : Hierarchy → View → ℕ → Type 0
IsTurnedAway h view v =
    (e : ℕ) → IsCornerNear h v e
    → pos 0 <ℤ dot_of (normal_of h (corners_of h (face_of e)))
    (way (leaf_place h (from_leaf h e)) view.eye)

-- Of faces that are turned away nothing is seen: the view judges by errors, or the mesh has no
-- border.
abbrev pub IsOneSided : Hierarchy → View → Type 0
IsOneSided h view = (view.measure ≡ measures.Error) ⊎ (has_border h ≡ false)

-- Each of their faces is turned to the eye, at each of its corners: the outline doesn't run through
-- the node.
abbrev pub IsTurnedTo : Hierarchy → View → ℕ → Type 0
IsTurnedTo h view v =
    (e : ℕ) → IsCornerNear h v e
    → dot_of (normal_of h (corners_of h (face_of e)))
    (way (leaf_place h (from_leaf h e)) view.eye) <ℤ pos 0

-- No leaf under the node is farther from the node's place than a tolerance, as it looks from the
-- eye by way of any of these corners.
abbrev pub IsWithinTolerance : Hierarchy → View → ℕ → ℕ → Type 0
IsWithinTolerance h view tol v =
    (x e : ℕ) → Holds h v x → IsCornerNear h v e
    → view.focal * view.focal * dist2_of (place_of_node h v) (leaf_place h x) ≤ tol * tol * dist2_of
    (leaf_place h (from_leaf h e)) view.eye

-- The node's place is no farther than a tolerance from the plane of any of their faces, as it looks
-- from the eye by way of any of these corners. The plane's value is the distance times the length
-- of its normal.
abbrev pub IsNearPlanes : Hierarchy → View → ℕ → ℕ → Type 0
IsNearPlanes h view tol v =
    (e : ℕ) → IsCornerNear h v e
    → let f = corners_of h (face_of e) in
    view.focal * view.focal * square_of (unsigned_abs (value_of h f (place_of_node h v)))
    ≤ tol * tol * dist2_of (leaf_place h (from_leaf h e)) view.eye * norm2_of (normal_of h f)

-- By the measure of a view: no leaf under the node is farther from its place than a tolerance, or
-- the place is no farther from the planes of the faces there.
abbrev pub IsWithin : Measure → Hierarchy → View → ℕ → ℕ → Type 0
IsWithin measures.Error h view tol v = IsWithinTolerance h view tol v
IsWithin measures.Deviation h view tol v = IsNearPlanes h view tol v

-- The node looks no larger than the tolerance; and no larger than the tolerance for outlines
-- either, or no outline runs through it.
abbrev pub IsTiny : Hierarchy → View → ℕ → Type 0
IsTiny h view v =
    IsWithin view.measure h view view.tol v
    × (IsWithin view.measure h view view.sil v ⊎ IsTurnedTo h view v)

-- A view that wants a node wants the node that was split to make it.
abbrev pub WantingPassesUp : Type 0
WantingPassesUp =
    (h : Hierarchy) → HasShape h → (view : View) (k v : ℕ) → k < record_count h → Makes h k v
    → is_wanted h view v ≡ true → is_wanted h view (s_of h k) ≡ true

-- There is a reason why a view doesn't want a node.
abbrev pub UnwantedForAReason : Type 0
UnwantedForAReason =
    (h : Hierarchy) → HasShape h → (view : View) (v : ℕ) → v < node_count h
    → is_wanted h view v ≡ false
    → IsBehind h view v ⊎ ((IsTurnedAway h view v × IsOneSided h view) ⊎ IsTiny h view v)

-- A view whose two tolerances are one wants what the tests by this tolerance alone want: whether
-- the outline may run through a node makes no difference.
abbrev pub OneToleranceIsPlain : Type 0
OneToleranceIsPlain =
    (h : Hierarchy) (view : View) (v : ℕ) → view.sil ≡ view.tol →
    let b = bounded h v in
    is_wanted h view v
    ≡ (not (is_outside_any view.planes b.place b.radius) && may_be_seen b view && looks_large b view
    view.tol)
