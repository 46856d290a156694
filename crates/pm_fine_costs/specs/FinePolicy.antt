-- The policy of a run for the look of what is left: planes weigh by the area of their faces, planes
-- that stand on the border hold it, points hold flat ground, and a vertex takes the planes round it
-- when it is made (after Garland and Heckbert 1998 and Lindstrom and Turk 1998).
use Rattle.std.specs.Prelude.{ℕ, Bool, cond, List, [], ◌∷◌, ◌++◌, is_some}
use Rattle.std.specs.List.{flat_map}
use Rattle.pm_base.specs.Geometry.{Direction}
use Rattle.pm_base.specs.Meshes.{Mesh}
use Rattle.pm_base.specs.Sides.{to, prev, twin_of}
use Rattle.pm_quadric.specs.Planes.{Plane, plane_through}
use Rattle.pm_runs.specs.Surfaces.{Surface, surface_of, place_at, net_of_surface}
use Rattle.pm_runs.specs.Planes.{point_at}
use Rattle.pm_fine.specs.Normals.{area_normal_of, border_normal_of, halved, doubled}
use Rattle.pm_fine.specs.FinePlanes.{point_planes}
use Rattle.pm_fine.specs.Fourth.{best_fine_place_of}
use Rattle.pm_policies.specs.Policies.{Policy}
use Rattle.pm_fine_costs.specs.Corners.{normal_at, corners_round}
use Rattle.pm_fine_costs.specs.Volumes.{volume_place}

-- The plane of the face of a corner, through the corner's vertex.
abbrev pub face_plane : (Direction → Direction) → Surface → ℕ → Plane
face_plane weigh s e =
    plane_through (weigh (area_normal_of (normal_at s e))) (place_at s ((net_of_surface s).from e))

-- Where a side has no twin, the plane that stands on it square to its face, through vertex v.
abbrev pub border_planes : (Direction → Direction) → Surface → ℕ → ℕ → List Plane
border_planes weigh s v e =
    let m = net_of_surface s in
    let n = border_normal_of (place_at s (m.from e)) (place_at s (to m e)) (normal_at s e) in
    cond (is_some (twin_of m e)) [] (plane_through (weigh n) (place_at s v) ∷ [])

-- The planes at a corner: that of its face, and those on the two sides of the face that meet there.
abbrev pub corner_planes : (Direction → Direction) → Surface → ℕ → ℕ → List Plane
corner_planes weigh s v e =
    face_plane weigh s e ∷ border_planes weigh s v e ++ border_planes weigh s v (prev e)

-- The planes round a vertex.
unfoldable pub planes_round : (Direction → Direction) → Surface → ℕ → List Plane
planes_round weigh s v = flat_map (corner_planes weigh s v) (corners_round s v)

-- The planes round an input vertex, with normals of half the length, and those of its point.
abbrev pub brought_at : Mesh → ℕ → List Plane
brought_at m v = planes_round halved (surface_of m) v ++ point_planes (point_at m v)

-- An input vertex brings these. A vertex takes the planes round it when it is made, with normals of
-- twice the length, so that they weigh sixteen times as much; so do the input's. The place is the
-- best of both ends, the midpoint and the fourth candidate, and a pair is put where the volume is
-- kept.
abbrev pub fine_keeping : (ℕ → Bool) → Policy
fine_keeping kept = record {
  brought = brought_at;
  taken = λ s v. planes_round doubled s v;
  place = λ planes a b. best_fine_place_of planes a b;
  put = volume_place;
  kept = kept;
}
