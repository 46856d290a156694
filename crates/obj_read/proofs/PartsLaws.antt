-- Laws of the parts of a number. Byte 46 is the point.
use Rattle.std.proofs.Common.{◌≡◌, ℕ, ◌+◌, ◌<◌, true, false, nat_lt, List, length}
use Rattle.std.proofs.Common.{drop, refl, ◌∙◌, ap, arith}
use Rattle.std.proofs.lemmas.Bool.Decides.{nat_tests}
use Rattle.pm_io.specs.Digits.{are_digits}
use Rattle.obj_read.specs.Coordinates.{whole_part, decimals, is_number}
use Rattle.obj_read.specs.Leading.{leading, after_digits, is_end}
use Rattle.obj_read.proofs.LeadingLaws.{leading_digits, leading_before}
use Rattle.obj_read.proofs.LeadingLaws.{leading_unread, drop_leading}

-- The digits stand before the point.
pub whole_leading : (number : List ℕ) → is_end 46 (after_digits number) ≡ true
    → whole_part number ≡ leading number
unfolding whole_part
whole_leading number is = leading_before 46 number refl is

-- What stands after the point.
pub decimals_after : (number : List ℕ) → is_end 46 (after_digits number) ≡ true
    → decimals number ≡ drop 1 (after_digits number)
unfolding decimals
decimals_after number is =
    ap (λ (l : List ℕ). drop (length l + 1) number) (leading_before 46 number refl is)
    ∙ drop_leading number 1

-- Other bytes after the digits are no number.
pub other_bytes : (number : List ℕ) → is_end 46 (after_digits number) ≡ false
    → is_number number ≡ false
unfolding is_number whole_part
other_bytes number is = rw (leading_unread 46 number refl is) refl

-- Digits, and a point and digits where there is one.
pub number_formed : (number : List ℕ) → is_end 46 (after_digits number) ≡ true
    → are_digits (drop 1 (after_digits number)) ≡ true
    → 0 < length (leading number) + length (drop 1 (after_digits number))
    → is_number number ≡ true
unfolding is_number
number_formed number is digits some =
    let e : nat_lt 0 (length (leading number) + length (drop 1 (after_digits number))) ≡ true =
    grind (arith, nat_tests) in
    rw (whole_leading number is, decimals_after number is, leading_digits number, digits, e) refl

-- Without a digit there is no number.
pub number_empty : (number : List ℕ) → is_end 46 (after_digits number) ≡ true
    → length (leading number) + length (drop 1 (after_digits number)) ≡ 0
    → are_digits (drop 1 (after_digits number)) ≡ true → is_number number ≡ false
unfolding is_number
number_empty number is none digits =
    rw (whole_leading number is, decimals_after number is, leading_digits number, digits, none) refl

-- Nor with other bytes after the point.
pub number_other : (number : List ℕ) → is_end 46 (after_digits number) ≡ true
    → are_digits (drop 1 (after_digits number)) ≡ false → is_number number ≡ false
unfolding is_number
number_other number is other =
    rw (whole_leading number is, decimals_after number is, leading_digits number, other) refl
