-- What a quadric's type keeps.
use Rattle.std.specs.Prelude.{◌≤◌, ◌^◌, List, length, unsigned_abs}
use Rattle.pm_quadric.specs.declared.quadric.TheConstants.{MOST_PLANES}
use Rattle.pm_quadric.specs.Planes.{Plane, AreFacePlanes}
use Rattle.pm_quadric.specs.Sums.{Sums, StandsFor}

-- It stands for some list of planes of faces that isn't too long.
pub record StandsForFaces (s : Sums) : Type 0 where
  pub planes : List Plane
  pub faces : AreFacePlanes planes
  pub few : length planes ≤ MOST_PLANES
  pub sums : StandsFor s planes

-- How far from 0 its numbers can be, which follows.
pub record IsSmall (s : Sums) : Type 0 where
  pub xx : unsigned_abs s.xx ≤ 2 ^ 89
  pub xy : unsigned_abs s.xy ≤ 2 ^ 89
  pub xz : unsigned_abs s.xz ≤ 2 ^ 89
  pub x : unsigned_abs s.x ≤ 2 ^ 106
  pub yy : unsigned_abs s.yy ≤ 2 ^ 89
  pub yz : unsigned_abs s.yz ≤ 2 ^ 89
  pub y : unsigned_abs s.y ≤ 2 ^ 106
  pub zz : unsigned_abs s.zz ≤ 2 ^ 89
  pub z : unsigned_abs s.z ≤ 2 ^ 106
  pub one : unsigned_abs s.one ≤ 2 ^ 122
  pub count : s.count ≤ MOST_PLANES

-- Both, so that the sums' ranges are at hand wherever the numbers are read.
pub record IsQuadric (s : Sums) : Type 0 where
  pub small : IsSmall s
  pub stands : StandsForFaces s
