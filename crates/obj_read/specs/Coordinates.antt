-- A coordinate in a field of a line, in units of 10 to the power -digits.
use Rattle.std.specs.Prelude.{ℕ, ◌+◌, ◌*◌, ◌^◌, List, [], ◌∷◌, ◌++◌, Bool, false, not, ◌==◌, ◌&&◌}
use Rattle.std.specs.Prelude.{◌||◌, nat_lt, length, take, drop, replicate, ℤ, pos, neg_ℤ, Result}
use Rattle.std.specs.Prelude.{Ok, Err, if◌then◌else◌}
use Rattle.std.specs.List.{list_all}
use Rattle.pm_base.specs.declared.limits.TheConstants.{GREATEST_COORDINATE}
use Rattle.pm_io.specs.Digits.{are_digits, value}
use Rattle.obj_lines.specs.Text.{until}
use Rattle.obj_read.specs.declared.fault.ObjFault.{ObjFault}
use Rattle.obj_read.specs.declared.fault.ObjFault.TheVariants as faults
use Rattle.pm_io.specs.Letters.{plus_sign, minus_sign, decimal_point, digit_zero}

-- A minus sign stands at the front.
abbrev pub is_negative : List ℕ → Bool
is_negative [] = false
is_negative (b ∷ bs) = b == minus_sign

-- A sign stands at the front.
abbrev pub is_signed : List ℕ → Bool
is_signed [] = false
is_signed (b ∷ bs) = b == plus_sign || b == minus_sign

-- Without a sign at the front.
unfoldable pub without_sign : List ℕ → List ℕ
without_sign field = if is_signed field then drop 1 field else field

-- What stands before the point of a number without its sign, and what stands after it.
unfoldable pub whole_part : List ℕ → List ℕ
whole_part number = until decimal_point number

unfoldable pub decimals : List ℕ → List ℕ
decimals number = drop (length (until decimal_point number) + 1) number

-- Digits, a point and digits where there is one, and a digit at all.
unfoldable pub is_number : List ℕ → Bool
is_number number =
    are_digits (whole_part number) && are_digits (decimals number) && nat_lt 0
    (length (whole_part number) + length (decimals number))

abbrev pub are_zeros : List ℕ → Bool
are_zeros digits = list_all (λ b. b == digit_zero) digits

abbrev pub with_sign : Bool → ℕ → ℤ
with_sign negative n = if negative then neg_ℤ (pos n) else pos n

-- The first digits, exactly so many: zeros stand after them where fewer are there.
unfoldable pub padded : ℕ → List ℕ → List ℕ
padded digits decimals = take digits (decimals ++ replicate digits digit_zero)

-- The absolute value of a number without its sign: what stands before the point times 10 to the
-- power of the digits, and the number that the first so many decimals make.
unfoldable pub magnitude : ℕ → List ℕ → ℕ
magnitude digits number =
    10 ^ digits * value 0 (whole_part number) + value 0 (padded digits (decimals number))

-- The coordinate that a field spells, or the field's first fault. Each decimal past the first so
-- many has to be a zero.
unfoldable pub coordinate : ℕ → List ℕ → Result ℤ ObjFault
coordinate digits field =
    if not (is_number (without_sign field)) then Err faults.BadNumber
    else if not (are_zeros (drop digits (decimals (without_sign field)))) then Err faults.NotWhole
    else if nat_lt GREATEST_COORDINATE (magnitude digits (without_sign field)) then
    Err faults.OutOfRange
    else Ok (with_sign (is_negative field) (magnitude digits (without_sign field)))
