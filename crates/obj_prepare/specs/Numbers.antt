-- Numbers with decimals and an exponent, rounded to whole numbers of units. A unit is 10^-18.
use Rattle.std.specs.Prelude.{◌≡◌, ℕ, ◌+◌, ◌-◌, ◌*◌, ◌/◌, ◌%◌, ◌^◌, ◌≤◌, pos, ◌-ℤ◌, unsigned_abs}
use Rattle.std.specs.Prelude.{List, ◌++◌, Bool, not, ◌==◌, ◌&&◌, ◌||◌, nat_lt, length, drop, ℤ}
use Rattle.std.specs.Prelude.{Result, Ok, Err, if◌then◌else◌}
use Rattle.pm_io.specs.Digits.{are_digits, value}
use Rattle.obj_lines.specs.Text.{until}
use Rattle.obj_read.specs.declared.fault.ObjFault.{ObjFault}
use Rattle.obj_read.specs.declared.fault.ObjFault.TheVariants as faults
use Rattle.obj_read.specs.Coordinates.{is_negative, without_sign, whole_part, decimals, is_number}
use Rattle.obj_read.specs.Coordinates.{with_sign}
use Rattle.pm_io.specs.Letters.{capital_e, letter_e}

-- The whole number nearest to n / d, halves up: half a divisor more, and then what is over is left.
unfoldable pub nearest : ℕ → ℕ → ℕ
nearest n d = (2 * n + d) / (2 * d)

-- How far a whole number is from n / d, in parts of 1 / d.
abbrev pub parts_off : ℕ → ℕ → ℕ → ℕ
parts_off n d r = unsigned_abs (pos (d * r) -ℤ pos n)

-- No whole number is nearer to n / d, and of two that are as near this is the greater.
pub record IsNearest (n d r : ℕ) : Type 0 where
  pub least : (k : ℕ) → parts_off n d r ≤ parts_off n d k
  pub halves_up : (k : ℕ) → parts_off n d k ≡ parts_off n d r → k ≤ r

-- Of a number without its sign: what stands before the exponent; the exponent with its letter; and
-- without it.
unfoldable pub mantissa : List ℕ → List ℕ
mantissa number = until letter_e (until capital_e number)

unfoldable pub exponent_part : List ℕ → List ℕ
exponent_part number = drop (length (mantissa number)) number

unfoldable pub exponent_text : List ℕ → List ℕ
exponent_text number = drop 1 (exponent_part number)

-- Digits after a sign where there is one, and a digit at all where the letter stands.
unfoldable pub is_exponent : List ℕ → Bool
is_exponent number =
    are_digits (without_sign (exponent_text number)) && (length (exponent_part number) ==
    0 || nat_lt 0 (length (without_sign (exponent_text number))))

unfoldable pub is_decimal : List ℕ → Bool
is_decimal number = is_number (mantissa number) && is_exponent number

-- The exponent without its sign.
unfoldable pub exponent : List ℕ → ℕ
exponent number = value 0 (without_sign (exponent_text number))

-- All digits before the exponent, as one whole number.
unfoldable pub all_digits : List ℕ → ℕ
all_digits number = value 0 (whole_part (mantissa number) ++ decimals (mantissa number))

-- The whole number nearest to n * 10^up / 10^down.
unfoldable pub shifted : ℕ → ℕ → ℕ → ℕ
shifted n up down = if nat_lt up down then nearest n (10 ^ (down - up)) else n * 10 ^ (up - down)

-- The number in units.
unfoldable pub units_of_text : List ℕ → ℕ
units_of_text number =
    if is_negative (exponent_text number) then
    shifted (all_digits number) 18 (length (decimals (mantissa number)) + exponent number)
    else shifted (all_digits number) (18 + exponent number) (length (decimals (mantissa number)))

-- The coordinate that a field spells, as the nearest whole number of units, halves away from 0; or
-- the field's first fault.
unfoldable pub decimal_coordinate : List ℕ → Result ℤ ObjFault
decimal_coordinate field =
    if not (is_decimal (without_sign field)) then Err faults.BadNumber
    else if nat_lt 999 (exponent (without_sign field)) || nat_lt (10 ^ 32)
    (units_of_text (without_sign field)) then Err faults.OutOfRange
    else Ok (with_sign (is_negative field) (units_of_text (without_sign field)))

-- n * 10^up / 10^down is a whole number.
unfoldable pub is_whole_shifted : ℕ → ℕ → ℕ → Bool
is_whole_shifted n up down = n * 10 ^ up % 10 ^ down == 0

-- The number is a whole number of units.
unfoldable pub is_whole_in_units : List ℕ → Bool
is_whole_in_units number =
    if is_negative (exponent_text number) then
    is_whole_shifted (all_digits number) 18 (length (decimals (mantissa number)) + exponent number)
    else is_whole_shifted (all_digits number) (18 + exponent number)
    (length (decimals (mantissa number)))

-- What a field spells is a whole number of units, so its coordinate isn't rounded.
unfoldable pub is_exact_field : List ℕ → Bool
is_exact_field field = is_whole_in_units (without_sign field)
