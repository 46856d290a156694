-- How great sums are, their sums and differences, and totals of leaves.
use Rattle.std.specs.Prelude.{ℕ, ◌≡◌, ◌+◌, ◌-◌, ◌≤◌, List, length, map, ℤ}
use Rattle.std.specs.List.{range_with_len}
use Rattle.pm_forest.specs.Forest.{Hierarchy, leaf_count}
use Rattle.pm_fit.specs.declared.moments.NumberSums.{NumberSums}
use Rattle.pm_fit.specs.declared.moments.PlaceSums.{PlaceSums}
use Rattle.pm_fits.specs.Fits.{AreNumbers, places_before, numbers_before}

-- No coordinate is above c, and no product above m.
pub record ArePlacesWithin (c m : ℕ) (s : PlaceSums) : Type 0 where
  pub x : s.x ≤ c
  pub y : s.y ≤ c
  pub z : s.z ≤ c
  pub xx : s.xx ≤ m
  pub xy : s.xy ≤ m
  pub xz : s.xz ≤ m
  pub yy : s.yy ≤ m
  pub yz : s.yz ≤ m
  pub zz : s.zz ≤ m

pub record AreNumbersWithin (m : ℕ) (s : NumberSums) : Type 0 where
  pub w : s.w ≤ m
  pub wx : s.wx ≤ m
  pub wy : s.wy ≤ m
  pub wz : s.wz ≤ m

-- No sum of b is above that of a.
pub record ArePlacesUpTo (a b : PlaceSums) : Type 0 where
  pub x : b.x ≤ a.x
  pub y : b.y ≤ a.y
  pub z : b.z ≤ a.z
  pub xx : b.xx ≤ a.xx
  pub xy : b.xy ≤ a.xy
  pub xz : b.xz ≤ a.xz
  pub yy : b.yy ≤ a.yy
  pub yz : b.yz ≤ a.yz
  pub zz : b.zz ≤ a.zz

pub record AreNumbersUpTo (a b : NumberSums) : Type 0 where
  pub w : b.w ≤ a.w
  pub wx : b.wx ≤ a.wx
  pub wy : b.wy ≤ a.wy
  pub wz : b.wz ≤ a.wz

-- a + b, and a - b.
abbrev pub plus_places : PlaceSums → PlaceSums → PlaceSums
plus_places a b = record {
  x = a.x + b.x;
  y = a.y + b.y;
  z = a.z + b.z;
  xx = a.xx + b.xx;
  xy = a.xy + b.xy;
  xz = a.xz + b.xz;
  yy = a.yy + b.yy;
  yz = a.yz + b.yz;
  zz = a.zz + b.zz;
}

abbrev pub less_places : PlaceSums → PlaceSums → PlaceSums
less_places a b = record {
  x = a.x - b.x;
  y = a.y - b.y;
  z = a.z - b.z;
  xx = a.xx - b.xx;
  xy = a.xy - b.xy;
  xz = a.xz - b.xz;
  yy = a.yy - b.yy;
  yz = a.yz - b.yz;
  zz = a.zz - b.zz;
}

abbrev pub plus_numbers : NumberSums → NumberSums → NumberSums
plus_numbers a b = record {
  w = a.w + b.w;
  wx = a.wx + b.wx;
  wy = a.wy + b.wy;
  wz = a.wz + b.wz;
}

abbrev pub less_numbers : NumberSums → NumberSums → NumberSums
less_numbers a b = record {
  w = a.w - b.w;
  wx = a.wx - b.wx;
  wy = a.wy - b.wy;
  wz = a.wz - b.wz;
}

-- The sums over the leaves before each leaf, and over all.
abbrev pub ArePlaceTotals : Hierarchy → List PlaceSums → Type 0
ArePlaceTotals h totals = totals ≡ map (places_before h) (range_with_len 0 (leaf_count h + 1))

pub record AreNumberTotals (h : Hierarchy) (numbers : List ℤ) (totals : List NumberSums) : Type
    0 where
  pub len : length numbers ≡ leaf_count h
  pub small : AreNumbers numbers
  pub are : totals ≡ map (numbers_before h numbers) (range_with_len 0 (leaf_count h + 1))

-- The same of some numbers.
abbrev pub AreTotals : Hierarchy → List NumberSums → Type 0
AreTotals h totals = (numbers : List ℤ) × AreNumberTotals h numbers totals
