-- Places in space: the points of the whole-number grid as contracts see them.
use Rattle.std.specs.Prelude.{ℤ, pos, ◌≤◌, nat_le, Bool, ◌&&◌, List, unsigned_abs, slice_index_or}
use Rattle.pm_base.specs.declared.limits.TheConstants.{GREATEST_COORDINATE}

pub record Place : Type 0 where
  pub x : ℤ
  pub y : ℤ
  pub z : ℤ

-- The middle of space. It also stands where a list has no place.
abbrev pub origin : Place
origin = record { x = pos 0; y = pos 0; z = pos 0 }

-- A coordinate is from -32,767 to 32,767.
abbrev pub is_coordinate : ℤ → Bool
is_coordinate n = nat_le (unsigned_abs n) GREATEST_COORDINATE

abbrev pub is_place : Place → Bool
is_place p = is_coordinate p.x && is_coordinate p.y && is_coordinate p.z

-- The same as a fact.
abbrev pub IsPlace : Place → Type 0
IsPlace p = (unsigned_abs p.x ≤ GREATEST_COORDINATE) × (unsigned_abs p.y ≤ GREATEST_COORDINATE)
    × (unsigned_abs p.z ≤ GREATEST_COORDINATE)

-- The place with these three coordinates.
abbrev pub place_of : List ℤ → Place
place_of r = record {
  x = slice_index_or r 0 (pos 0);
  y = slice_index_or r 1 (pos 0);
  z = slice_index_or r 2 (pos 0);
}
