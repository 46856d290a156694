-- What the target of a view by deviations shows.
use Rattle.std.specs.Prelude.{◌≡◌, ℕ, ◌+◌, ◌*◌, ◌<◌, ◌≤◌, false, pos, ◌+ℤ◌, ◌*ℤ◌, unsigned_abs}
use Rattle.pm_base.specs.Geometry.{dist2_of, norm2_of, square_of}
use Rattle.pm_base.specs.Sides.{face_of}
use Rattle.pm_forest.specs.Forest.{Hierarchy}
use Rattle.pm_forest.specs.Faces.{face_count, corners_of, from_leaf}
use Rattle.pm_forest.specs.Fronts.{ancestor_of}
use Rattle.pm_forest.specs.Meshes.{leaf_place}
use Rattle.pm_forest.specs.Places.{place_of_node}
use Rattle.pm_forest.specs.Rules.{HasShape}
use Rattle.pm_bounds.specs.Bounds.{normal_of}
use Rattle.pm_deviation.specs.Borders.{has_border}
use Rattle.pm_deviation.specs.Laws.{value_of}
use Rattle.pm_view.specs.declared.measure.Measure.TheVariants as measures
use Rattle.pm_view.specs.Views.{View}
use Rattle.pm_view.specs.Laws.{IsBehind, IsTurnedAway}
use Rattle.pm_refine.specs.Adapting.{view_target}

-- What is under the node isn't all behind a plane of the view; and, where the mesh has no border,
-- not all turned away from its eye.
abbrev pub IsLookedAt : Hierarchy → View → ℕ → Type 0
IsLookedAt h view v =
    (IsBehind h view v → ⊥) × (has_border h ≡ false → IsTurnedAway h view v → ⊥)

-- The point of three nodes' triangle that has weights i, j and k is no farther from the plane of a
-- face than the tolerance, as seen from the corner of the face where its side e begins. The plane's
-- value there is the sum divided by i + j + k, and it is the distance times the length of the
-- normal.
abbrev pub LooksNear : Hierarchy → View → (e u v w i j k : ℕ) → Type 0
LooksNear h view e u v w i j k =
    let f = corners_of h (face_of e) in
    let value = λ (node : ℕ). value_of h f (place_of_node h node) in
    view.focal * view.focal * square_of
    (unsigned_abs (pos i *ℤ value u +ℤ pos j *ℤ value v +ℤ pos k *ℤ value w))
    ≤ square_of (i + j + k) * (view.tol * view.tol * dist2_of (leaf_place h (from_leaf h e))
    view.eye * norm2_of (normal_of h f))

-- In the target of a view by deviations each point of a face's triangle is that near to the plane
-- of the face, as seen from each of its corners, and so from the nearest one, where all three nodes
-- of the triangle are looked at.
abbrev pub ShownTrianglesAreNear : Type 0
ShownTrianglesAreNear =
    (h : Hierarchy) → HasShape h → (view : View) → view.measure ≡ measures.Deviation
    → (e i j k : ℕ) → e < 3 * face_count h
    → let node =
    λ (corner : ℕ). ancestor_of h (view_target h view) (from_leaf h (3 * face_of e + corner)) in
    IsLookedAt h view (node 0) → IsLookedAt h view (node 1) → IsLookedAt h view (node 2)
    → LooksNear h view e (node 0) (node 1) (node 2) i j k
