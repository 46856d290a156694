-- Spreads: the whole numbers from one to another, and boxes of them on the three axes.
use Rattle.std.specs.Prelude.{ℕ, max, unsigned_abs, List, [], ◌∷◌, Option, None, Some, ℤ, pos, ◌+ℤ◌}
use Rattle.std.specs.Prelude.{◌*ℤ◌, neg_ℤ}
use Rattle.std.specs.Int.{int_min, int_max, div_ceil}
use Rattle.pm_base.specs.Geometry.{Direction}
use Rattle.pm_deviation.specs.declared.spread.Spread.{Spread}
use Rattle.pm_deviation.specs.declared.unit_box.UnitBox.{UnitBox}

-- The least spread that has two others in it.
abbrev pub joined : Spread → Spread → Spread
joined a b = record { low = int_min a.low b.low; high = int_max a.high b.high }

-- The same where one of the two, or both, may be missing.
abbrev pub join : Option Spread → Option Spread → Option Spread
join None b = b
join (Some a) None = Some a
join (Some a) (Some b) = Some (joined a b)

-- The same of all that are there.
abbrev pub joined_all : List (Option Spread) → Option Spread
joined_all [] = None
joined_all (s ∷ ss) = join s (joined_all ss)

-- From 0 to 0.
abbrev pub no_spread : Spread
no_spread = record { low = pos 0; high = pos 0 }

-- All numbers of a spread with their signs turned.
abbrev pub mirrored : Spread → Spread
mirrored s = record { low = neg_ℤ s.high; high = neg_ℤ s.low }

-- Between which whole numbers lie the products of a number with those of a spread.
abbrev pub times : Spread → ℤ → Spread
times s m = record {
  low = int_min (s.low *ℤ m) (s.high *ℤ m);
  high = int_max (s.low *ℤ m) (s.high *ℤ m);
}

-- Between which whole numbers lie the products of a direction with the vectors of a box.
unfoldable pub along : UnitBox → Direction → Spread
along b m = record {
  low = (times b.x m.x).low +ℤ (times b.y m.y).low +ℤ (times b.z m.z).low;
  high = (times b.x m.x).high +ℤ (times b.y m.y).high +ℤ (times b.z m.z).high;
}

-- How far from 0 the numbers of a spread are at most.
abbrev pub most_of : Spread → ℕ
most_of s = max (unsigned_abs s.low) (unsigned_abs s.high)

-- The most that a move can go along vectors of a box in 16,384ths, rounded up.
abbrev pub most_along : UnitBox → Direction → ℕ
most_along b m = div_ceil (most_of (along b m)) 16384
