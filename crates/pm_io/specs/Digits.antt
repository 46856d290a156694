-- Numbers in decimal digits, as bytes of text.
use Rattle.std.specs.Prelude.{ℕ, ◌+◌, ◌-◌, ◌*◌, List, [], ◌∷◌, Bool, not, ◌==◌, ◌&&◌, ◌||◌, nat_lt}
use Rattle.std.specs.Prelude.{nat_le, length, slice_index_or, Option, Some, None, if◌then◌else◌}
use Rattle.std.specs.List.{list_all}
use Rattle.pm_io.specs.Letters.{digit_zero, digit_nine}

abbrev pub is_digit : ℕ → Bool
is_digit b = nat_le digit_zero b && nat_le b digit_nine

abbrev pub are_digits : List ℕ → Bool
are_digits bytes = list_all is_digit bytes

-- The number that the digits make after n.
abbrev pub value : ℕ → List ℕ → ℕ
value n [] = n
value n (b ∷ bs) = value (10 * n + (b - digit_zero)) bs

-- An unsigned number: at least one digit, and no zero before another digit.
abbrev pub is_unsigned : List ℕ → Bool
is_unsigned text =
    are_digits text && nat_lt 0 (length text) &&
    (length text == 1 || not (slice_index_or text 0 0 == digit_zero))

-- The unsigned number that the text is, where it is one and is at most `most`.
unfoldable pub unsigned_of : ℕ → List ℕ → Option ℕ
unsigned_of most text = if is_unsigned text && nat_le (value 0 text) most then Some (value 0 text)
    else None
