-- The planes that a vertex stands for, and from them the place and the cost of a pair (Garland and
-- Heckbert 1997).
use Rattle.std.specs.Prelude.{ℕ, ◌==◌, Bool, cond, ◌||◌, List, [], ◌∷◌, ◌++◌, map, slice_index_or}
use Rattle.std.specs.List.{filter}
use Rattle.pm_base.specs.Place.{Place, place_of}
use Rattle.pm_base.specs.declared.mesh.Corners.{Corners}
use Rattle.pm_base.specs.declared.log.Collapse.{Collapse}
use Rattle.pm_base.specs.Meshes.{Mesh}
use Rattle.pm_quadric.specs.Planes.{Plane, plane_of, squares_of}
use Rattle.pm_quadric.specs.Candidates.{least_place}
use Rattle.pm_queue.specs.declared.key.Key.{Key}
use Rattle.pm_runs.specs.Surfaces.{Surface, place_at}

abbrev pub point_at : Mesh → ℕ → Place
point_at m v = slice_index_or m.points v (place_of [])

-- The plane of a face.
abbrev pub plane_of_face : Mesh → Corners → Plane
plane_of_face m f = plane_of (point_at m f.a) (point_at m f.b) (point_at m f.c)

abbrev pub has_corner : ℕ → Corners → Bool
has_corner v f = f.a == v || (f.b == v || f.c == v)

-- The planes of the faces that have the vertex as a corner, in face order.
unfoldable pub planes_at : Mesh → ℕ → List Plane
planes_at m v = map (plane_of_face m) (filter (has_corner v) m.faces)

-- One collapse gives the new vertex the planes of t and then those of u. Other vertices keep
-- theirs.
abbrev pub joined_planes : (ℕ → List Plane) → Collapse → ℕ → List Plane
joined_planes planes c v = cond (v == c.s) (planes c.t ++ planes c.u) (planes v)

abbrev pub planes_from : (ℕ → List Plane) → List Collapse → ℕ → List Plane
planes_from planes [] = planes
planes_from planes (c ∷ cs) = planes_from (joined_planes planes c) cs

-- The planes of a vertex after the collapses of a log: those of all input vertices merged in it, a
-- plane as often as it comes in.
unfoldable pub planes_after : Mesh → List Collapse → ℕ → List Plane
planes_after m log = planes_from (planes_at m) log

-- The planes of both ends of a pair.
abbrev pub pair_planes : (ℕ → List Plane) → ℕ → ℕ → List Plane
pair_planes planes a b = planes a ++ planes b

-- The place of a pair: the first of the places of a and b and their midpoint at which the planes of
-- both have the least sum of squared values.
abbrev pub best_place_of : (ℕ → List Plane) → Surface → ℕ → ℕ → Place
best_place_of planes s a b =
    least_place (squares_of (pair_planes planes a b)) (place_at s a) (place_at s b)

-- That sum there.
abbrev pub cost_of : (ℕ → List Plane) → Surface → ℕ → ℕ → ℕ
cost_of planes s a b = squares_of (pair_planes planes a b) (best_place_of planes s a b)

-- Pairs are ordered by cost, then by the first vertex, then by the second.
abbrev pub key_of : (ℕ → List Plane) → Surface → ℕ → ℕ → Key
key_of planes s a b = record { cost = cost_of planes s a b; a = a; b = b }
