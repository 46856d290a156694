-- What a fine quadric's type keeps.
use Rattle.std.specs.Prelude.{◌≤◌, ◌^◌, List, length, unsigned_abs}
use Rattle.pm_quadric.specs.Planes.{Plane}
use Rattle.pm_quadric.specs.Sums.{Sums, StandsFor}
use Rattle.pm_fine.specs.declared.fine_quadric.TheConstants.{MOST_FINE_PLANES}
use Rattle.pm_fine.specs.FinePlanes.{AreFinePlanes}

-- It stands for some list of fine planes that isn't too long.
pub record StandsForFine (s : Sums) : Type 0 where
  pub planes : List Plane
  pub fine : AreFinePlanes planes
  pub few : length planes ≤ MOST_FINE_PLANES
  pub sums : StandsFor s planes

-- How far from 0 its numbers can be, which follows.
pub record IsFineSmall (s : Sums) : Type 0 where
  pub xx : unsigned_abs s.xx ≤ 2 ^ 80
  pub xy : unsigned_abs s.xy ≤ 2 ^ 80
  pub xz : unsigned_abs s.xz ≤ 2 ^ 80
  pub x : unsigned_abs s.x ≤ 2 ^ 97
  pub yy : unsigned_abs s.yy ≤ 2 ^ 80
  pub yz : unsigned_abs s.yz ≤ 2 ^ 80
  pub y : unsigned_abs s.y ≤ 2 ^ 97
  pub zz : unsigned_abs s.zz ≤ 2 ^ 80
  pub z : unsigned_abs s.z ≤ 2 ^ 97
  pub one : unsigned_abs s.one ≤ 2 ^ 113
  pub count : s.count ≤ MOST_FINE_PLANES

-- Both, so that the sums' ranges are at hand wherever the numbers are read.
pub record IsFineQuadric (s : Sums) : Type 0 where
  pub small : IsFineSmall s
  pub stands : StandsForFine s
