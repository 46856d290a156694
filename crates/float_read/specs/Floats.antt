-- Binary numbers of IEEE 754 (2019, 3.4) as whole numbers of units. A unit is 10^-18.
use Rattle.std.specs.Prelude.{ℕ, ◌+◌, ◌-◌, ◌*◌, ◌/◌, ◌%◌, ◌^◌, ◌≤◌, max, Bool, ◌==◌, nat_lt, ℤ, pos}
use Rattle.std.specs.Prelude.{◌*ℤ◌, unsigned_abs, Result, Ok, Err, if◌then◌else◌}
use Rattle.obj_read.specs.Coordinates.{with_sign}
use Rattle.obj_prepare.specs.Numbers.{nearest}
use Rattle.float_read.specs.declared.fault.FloatFault.{FloatFault}
use Rattle.float_read.specs.declared.fault.FloatFault.TheVariants as faults
use Rattle.float_read.specs.declared.format.Format.{Format}

-- From the least bit on: the fraction, the exponent as it stands there, and the sign.
unfoldable pub fraction : Format → ℕ → ℕ
fraction f bits = bits % 2 ^ f.fraction_bits

unfoldable pub exponent : Format → ℕ → ℕ
exponent f bits = bits / 2 ^ f.fraction_bits % 2 ^ f.exponent_bits

unfoldable pub is_negative : Format → ℕ → Bool
is_negative f bits = bits / 2 ^ (f.fraction_bits + f.exponent_bits) % 2 == 1

-- The greatest exponent stands for infinities and for what isn't a number.
unfoldable pub greatest_exponent : Format → ℕ
greatest_exponent f = 2 ^ f.exponent_bits - 1

-- A bit of 1 goes before the fraction, but where the exponent is 0.
unfoldable pub significand : Format → ℕ → ℕ
significand f bits =
    if exponent f bits == 0 then fraction f bits else 2 ^ f.fraction_bits + fraction f bits

-- The exponent of a number is as much below that which stands there, at least 1, and its point
-- stands before the fraction.
unfoldable pub scale : Format → ℕ
scale f = 2 ^ (f.exponent_bits - 1) - 1 + f.fraction_bits

-- The absolute value is m * 2^power / 2^scale: the nearest whole number of units, halves up.
unfoldable pub units : ℕ → ℕ → ℕ → ℕ
units m power scale = nearest (10 ^ 18 * (m * 2 ^ power)) (2 ^ scale)

unfoldable pub units_of_bits : Format → ℕ → ℕ
units_of_bits f bits = units (significand f bits) (max 1 (exponent f bits)) (scale f)

-- The coordinate that bits are, as the nearest whole number of units, halves away from 0; or why
-- they are none.
unfoldable pub float_coordinate : Format → ℕ → Result ℤ FloatFault
float_coordinate f bits =
    if exponent f bits == greatest_exponent f then Err faults.NotFinite
    else if nat_lt (10 ^ 32) (units_of_bits f bits) then Err faults.TooLarge
    else Ok (with_sign (is_negative f bits) (units_of_bits f bits))

-- The coordinate that a whole number is.
unfoldable pub whole_coordinate : ℤ → Result ℤ FloatFault
whole_coordinate n =
    if nat_lt (10 ^ 14) (unsigned_abs n) then Err faults.TooLarge else Ok (n *ℤ pos (10 ^ 18))

-- What the formats that are read keep to.
pub record IsFormat (f : Format) : Type 0 where
  pub least : 2 ≤ f.exponent_bits
  pub exponent : f.exponent_bits ≤ 11
  pub some : 1 ≤ f.fraction_bits
  pub fraction : f.fraction_bits ≤ 52

-- Single and double precision.
abbrev pub binary32 : Format
binary32 = record { exponent_bits = 8; fraction_bits = 23 }

abbrev pub binary64 : Format
binary64 = record { exponent_bits = 11; fraction_bits = 52 }
