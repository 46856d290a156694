-- Points that fit the grid as they stand. A unit is 10^-18.
use Rattle.std.specs.Prelude.{◌*◌, ◌/◌, ◌%◌, ◌^◌, nat_le, Bool, ◌==◌, ◌&&◌, ℤ, pos, unsigned_abs}
use Rattle.std.specs.Int.Signed.{lt_z}
use Rattle.pm_base.specs.declared.limits.TheConstants.{GREATEST_COORDINATE}
use Rattle.pm_base.specs.Place.{Place}
use Rattle.obj_read.specs.Coordinates.{with_sign}

-- A whole number, no more than the greatest coordinate away from 0; and the number.
abbrev pub is_whole_coordinate : ℤ → Bool
is_whole_coordinate n =
    unsigned_abs n % 10 ^ 18 == 0 && nat_le (unsigned_abs n) (GREATEST_COORDINATE * 10 ^ 18)

abbrev pub whole_part_of : ℤ → ℤ
whole_part_of n = with_sign (lt_z n (pos 0)) (unsigned_abs n / 10 ^ 18)

abbrev pub stands_on_grid : Place → Bool
stands_on_grid p = is_whole_coordinate p.x && is_whole_coordinate p.y && is_whole_coordinate p.z
