-- Where a pair is put so that the volume under the faces round it stays as it is (Lindstrom and
-- Turk 1998): at its place, moved along the sum of the normals of those faces.
use Rattle.std.specs.Prelude.{ℕ, ◌*◌, ◌^◌, ◌≤◌, ◌==◌, nat_le, Bool, false, cond, ◌||◌, ◌&&◌, not}
use Rattle.std.specs.Prelude.{Option, None, Some}
use Rattle.std.specs.Prelude.{if◌then◌else◌, pos, ◌+ℤ◌, ◌-ℤ◌, ◌*ℤ◌, unsigned_abs}
use Rattle.std.specs.Prelude.{List, [], ◌∷◌, ◌++◌}
use Rattle.std.specs.List.{filter}
use Rattle.pm_base.specs.Place.{Place, is_place}
use Rattle.pm_base.specs.Geometry.{Direction, cross_of, dot_of, dist2_of, norm2_of}
use Rattle.pm_base.specs.Sides.{to, third}
use Rattle.pm_runs.specs.Surfaces.{Surface, place_at, net_of_surface}
use Rattle.pm_fine.specs.Rounded.{near}
use Rattle.pm_fine.specs.Normals.{way_of}
use Rattle.pm_fine_costs.specs.declared.corner.Corner.{Corner}
use Rattle.pm_fine_costs.specs.declared.face_sum.FaceSum.{FaceSum}
use Rattle.pm_fine_costs.specs.Corners.{normal_at, corners_round}

-- Whether v is one of the other two corners of the face of a corner.
abbrev pub has_other : Surface → ℕ → ℕ → Bool
has_other s v e = let m = net_of_surface s in to m e == v || third m e == v

-- The corners at a, and those at b in faces without a: each face at one of the two, once.
abbrev pub corners_at_ends : Surface → ℕ → ℕ → List ℕ
corners_at_ends s a b = corners_round s a ++ filter (λ e. not (has_other s a e)) (corners_round s b)

abbrev pub no_faces : FaceSum
no_faces = record { x = pos 0; y = pos 0; z = pos 0; volume = pos 0 }

abbrev pub plus_faces : FaceSum → FaceSum → FaceSum
plus_faces f g = record {
  x = f.x +ℤ g.x;
  y = f.y +ℤ g.y;
  z = f.z +ℤ g.z;
  volume = f.volume +ℤ g.volume;
}

abbrev pub total_of : (ℕ → FaceSum) → List ℕ → FaceSum
total_of f [] = no_faces
total_of f (e ∷ es) = plus_faces (f e) (total_of f es)

-- The normal of the face of a corner, and six times the volume between the face and a place.
abbrev pub face_of : Corner → Place → FaceSum
face_of k p =
    let n = cross_of k.at k.next k.last in
    record { x = n.x; y = n.y; z = n.z; volume = dot_of n (way_of k.at p) }

abbrev pub face_at : Surface → Place → ℕ → FaceSum
face_at s p e =
    let n = normal_at s e in
    let at = place_at s ((net_of_surface s).from e) in
    record { x = n.x; y = n.y; z = n.z; volume = dot_of n (way_of at p) }

-- That of the face of a corner, and of none where another corner is at a vertex that is given.
abbrev pub has_but : Surface → Option ℕ → ℕ → Bool
has_but s None e = false
has_but s (Some v) e = has_other s v e

abbrev pub face_but : Surface → Option ℕ → Place → ℕ → FaceSum
face_but s but p e = cond (has_but s but e) no_faces (face_at s p e)

abbrev pub normal_of : FaceSum → Direction
normal_of f = record { x = f.x; y = f.y; z = f.z }

-- The place moved along the sum of the normals until the volume is 0, each number rounded.
abbrev pub moved_by : FaceSum → Place → Place
moved_by f p =
    let length = norm2_of (normal_of f) in
    record {
      x = p.x -ℤ near (f.x *ℤ f.volume) length;
      y = p.y -ℤ near (f.y *ℤ f.volume) length;
      z = p.z -ℤ near (f.z *ℤ f.volume) length;
    }

-- A place no farther from p than twice a pair's length, whose square is given.
abbrev pub is_near : ℕ → Place → Place → Bool
is_near length p q = is_place q && nat_le (dist2_of q p) (4 * length)

-- The place moved so, where that is near. Without a normal it stays.
unfoldable pub volume_place : Surface → ℕ → ℕ → Place → Place
volume_place s a b p =
    let f = total_of (face_at s p) (corners_at_ends s a b) in
    let q = moved_by f p in
    if norm2_of (normal_of f) == 0 then p
    else if is_near (dist2_of (place_at s a) (place_at s b)) p q then q else p

-- How great the sums over n faces can be.
pub record IsSmall (n : ℕ) (f : FaceSum) : Type 0 where
  pub x : unsigned_abs f.x ≤ n * 2 ^ 33
  pub y : unsigned_abs f.y ≤ n * 2 ^ 33
  pub z : unsigned_abs f.z ≤ n * 2 ^ 33
  pub volume : unsigned_abs f.volume ≤ n * (3 * 2 ^ 49)
