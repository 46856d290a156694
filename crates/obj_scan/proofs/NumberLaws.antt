-- A field that spells a whole number, with no decimals but zeros, is the same number in units.
use Rattle.std.proofs.Common.{◌≡◌, ℕ, zero, suc, ◌+◌, ◌-◌, ◌*◌, ◌%◌, ◌^◌, ◌<◌, ◌≤◌, ℤ, Bool, true}
use Rattle.std.proofs.Common.{false, ◌==◌, nat_le, nat_lt, List, [], ◌∷◌, ◌++◌, length, drop, Ok}
use Rattle.std.proofs.Common.{refl, sym, ◌∙◌, ap, arith}
use Rattle.std.proofs.Math.Nat.{one-le-pow, mul_assoc, mul-mod_left, div-eq_of_lt-le}
use Rattle.std.proofs.Math.IntN.{pos-*ℤ-pos, negsuc-*ℤ-pos}
use Rattle.std.proofs.lemmas.Bool.{and_parts, leb-true, le-ltb, ltb-true, ltb-false, ne_eqb}
use Rattle.std.proofs.lemmas.Bool.{eqb-true}
use Rattle.std.proofs.lemmas.List.{drop_all}
use Rattle.std.proofs.lemmas.Nat.{pow-add}
use Rattle.pm_io.specs.Digits.{is_digit, are_digits, value}
use Rattle.obj_lines.specs.Text.{until}
use Rattle.obj_read.proofs.WrittenLaws.{whole_number}
use Rattle.obj_scan.specs.Digits.{IsOfDigits}
use Rattle.obj_read.specs.Coordinates.{is_negative, without_sign, whole_part, decimals, is_number}
use Rattle.obj_read.specs.Coordinates.{are_zeros, with_sign, padded, magnitude, coordinate}
use Rattle.obj_prepare.specs.Numbers.{nearest, mantissa, exponent_part, exponent_text, is_exponent}
use Rattle.obj_prepare.specs.Numbers.{is_decimal, exponent, all_digits, shifted, units_of_text}
use Rattle.obj_prepare.specs.Numbers.{decimal_coordinate, is_whole_shifted, is_whole_in_units}
use Rattle.obj_prepare.specs.Numbers.{is_exact_field}
use Rattle.obj_prepare.proofs.DigitLaws.{value_append, value_after}
use Rattle.obj_scan.specs.Laws.{in_units}

-- No letter stands in a number without an exponent.

digits_lack : (letter : ℕ) (ds : List ℕ) → 57 < letter → are_digits ds ≡ true → until letter ds ≡ ds
digits_lack letter [] above all = refl
digits_lack letter (b ∷ bs) above all =
    let parts = and_parts (is_digit b) (are_digits bs) all in
    let digit = and_parts (nat_le 48 b) (nat_le b 57) parts.0 in
    let most : b ≤ 57 = leb-true _ _ digit.1 in
    rw (ne_eqb b letter (λ e. omega (arith, e, most, above)))
    (ap (λ (l : List ℕ). b ∷ l) (digits_lack letter bs above parts.1))

lacks_case : (letter b : ℕ) (bs : List ℕ) (t : Bool) → (b == 46) ≡ t → 57 < letter
    → are_digits (until 46 (b ∷ bs)) ≡ true
    → are_digits (drop (length (until 46 (b ∷ bs)) + 1) (b ∷ bs)) ≡ true
    → (are_digits (until 46 bs) ≡ true → are_digits (drop (length (until 46 bs) + 1) bs) ≡ true
    → until letter bs ≡ bs) → until letter (b ∷ bs) ≡ b ∷ bs
lacks_case letter b bs true is above before after more =
    let e : b ≡ 46 = eqb-true b 46 is in
    let all : are_digits bs ≡ true = rw is at after in
    rw (ne_eqb b letter (λ same. omega (arith, e, same, above)))
    (ap (λ (l : List ℕ). b ∷ l) (digits_lack letter bs above all))
lacks_case letter b bs false is above before after more =
    let all : are_digits (b ∷ until 46 bs) ≡ true = rw is at before in
    let n : suc (length (until 46 bs)) + 1 ≡ suc (length (until 46 bs) + 1) = omega arith in
    let later : are_digits (drop (suc (length (until 46 bs)) + 1) (b ∷ bs)) ≡ true =
    rw is at after in
    let rest : are_digits (drop (length (until 46 bs) + 1) bs) ≡ true = rw n at later in
    let parts = and_parts (is_digit b) (are_digits (until 46 bs)) all in
    let digit = and_parts (nat_le 48 b) (nat_le b 57) parts.0 in
    let most : b ≤ 57 = leb-true _ _ digit.1 in
    rw (ne_eqb b letter (λ e. omega (arith, e, most, above)))
    (ap (λ (l : List ℕ). b ∷ l) (more parts.1 rest))

number_lacks : (letter : ℕ) (number : List ℕ) → 57 < letter → are_digits (until 46 number) ≡ true
    → are_digits (drop (length (until 46 number) + 1) number) ≡ true → until letter number ≡ number
number_lacks letter [] above before after = refl
number_lacks letter (b ∷ bs) above before after =
    lacks_case letter b bs (b == 46) refl above before after (number_lacks letter bs above)

-- What a field holds that spells a whole number.
record IsWholeField (field : List ℕ) (x : ℤ) : Type 0 where
  number : is_number (without_sign field) ≡ true
  zeros : are_zeros (decimals (without_sign field)) ≡ true
  most : value 0 (whole_part (without_sign field)) ≤ 32767
  is : x ≡ with_sign (is_negative field) (value 0 (whole_part (without_sign field)))

magnitude_whole : (number : List ℕ) → magnitude 0 number ≡ value 0 (whole_part number)
unfolding magnitude padded
magnitude_whole number = omega arith

whole_case : (field : List ℕ) (x : ℤ) (number zeros past : Bool)
    → is_number (without_sign field) ≡ number → are_zeros (decimals (without_sign field)) ≡ zeros
    → nat_lt 32767 (magnitude 0 (without_sign field)) ≡ past → coordinate 0 field ≡ Ok x
    → IsWholeField field x
unfolding coordinate
whole_case field x false zeros past a b c is = let e = rw a at is in cc
whole_case field x true false past a b c is = let e = rw (a, b) at is in cc
whole_case field x true true true a b c is = let e = rw (a, b, c) at is in cc
whole_case field x true true false a b c is =
    let number = without_sign field in
    let n = value 0 (whole_part number) in
    let worth : magnitude 0 number ≡ n = magnitude_whole number in
    let e : Ok (with_sign (is_negative field) (magnitude 0 number)) ≡ Ok x = rw (a, b, c) at is in
    let same : with_sign (is_negative field) (magnitude 0 number) ≡ x = cc in
    record {
      number = a;
      zeros = b;
      most = let w = worth in let l = ltb-false _ _ c in omega (arith, w, l);
      is = sym same ∙ ap (with_sign (is_negative field)) worth;
    }

zeros_worth : (ds : List ℕ) → are_zeros ds ≡ true → value 0 ds ≡ 0
zeros_worth [] zeros = refl
zeros_worth (b ∷ bs) zeros =
    let parts = and_parts (b == 48) (are_zeros bs) zeros in
    let none : 10 * 0 + (b - 48) ≡ 0 = omega (arith, eqb-true b 48 parts.0) in
    ap (λ (m : ℕ). value m bs) none ∙ zeros_worth bs parts.1

nearest_itself : (n p : ℕ) → 0 < p → nearest (n * p) p ≡ n
unfolding nearest
nearest_itself n p some =
    let a : n * (2 * p) ≡ 2 * (n * p) = grind arith in
    let b : (n + 1) * (2 * p) ≡ 2 * (n * p) + 2 * p = grind arith in
    div-eq_of_lt-le (2 * p) (omega (arith, a)) (omega (arith, b, some))

-- Such a number in units.
shifted_case : (n k : ℕ) (past : Bool) → nat_lt 18 k ≡ past
    → shifted (n * 10 ^ k) 18 k ≡ n * 10 ^ 18
unfolding shifted
shifted_case n k true past =
    let l = ltb-true 18 k past in
    let cut : k ≡ 18 + (k - 18) = omega (arith, l) in
    let power : n * 10 ^ k ≡ n * 10 ^ 18 * 10 ^ (k - 18) =
    ap (λ (i : ℕ). n * 10 ^ i) cut ∙ ap (λ (p : ℕ). n * p) (pow-add 10 18 (k - 18))
    ∙ sym (mul_assoc n (10 ^ 18) (10 ^ (k - 18))) in
    rw past (ap (λ (m : ℕ). nearest m (10 ^ (k - 18))) power
    ∙ nearest_itself (n * 10 ^ 18) (10 ^ (k - 18)) (one-le-pow (k - 18) 10 (omega arith)))
shifted_case n k false past =
    let l = ltb-false 18 k past in
    let cut : k + (18 - k) ≡ 18 = omega (arith, l) in
    rw past (mul_assoc n (10 ^ k) (10 ^ (18 - k))
    ∙ ap (λ (p : ℕ). n * p) (sym (pow-add 10 k (18 - k))) ∙ ap (λ (i : ℕ). n * 10 ^ i) cut)

signed_units : (negative : Bool) (n : ℕ)
    → with_sign negative (n * 10 ^ 18) ≡ in_units (with_sign negative n)
signed_units false n = sym (pos-*ℤ-pos n (10 ^ 18))
signed_units true zero = refl
signed_units true (suc n) = sym (negsuc-*ℤ-pos n (10 ^ 18))

-- A number without an exponent.
record IsPlain (number : List ℕ) : Type 0 where
  mantissa : mantissa number ≡ number
  exponent : exponent_part number ≡ []

plain_number : (number : List ℕ) → is_number number ≡ true → IsPlain number
unfolding is_number whole_part decimals mantissa exponent_part
plain_number number is =
    let parts = and_parts _ _ (and_parts _ _ is).0 in
    let small = number_lacks 69 number (omega arith) parts.0 parts.1 in
    let both : until 101 (until 69 number) ≡ number =
    ap (until 101) small ∙ number_lacks 101 number (omega arith) parts.0 parts.1 in
    record {
      mantissa = both;
      exponent =
          ap (λ (l : List ℕ). drop (length l) number) both
          ∙ drop_all (length number) number (omega arith);
    }

plain_units : (number : List ℕ) → IsPlain number → are_zeros (decimals number) ≡ true
    → units_of_text number ≡ value 0 (whole_part number) * 10 ^ 18
unfolding units_of_text all_digits exponent exponent_text without_sign
plain_units number plain zeros =
    let n = value 0 (whole_part number) in
    let k = length (decimals number) in
    let worth : n * 10 ^ k + value 0 (decimals number) ≡ n * 10 ^ k =
    omega (arith, zeros_worth (decimals number) zeros) in
    let digits : value 0 (whole_part number ++ decimals number) ≡ n * 10 ^ k =
    value_append 0 (whole_part number) (decimals number) ∙ value_after n (decimals number)
    ∙ worth in
    rw (plain.exponent, plain.mantissa, digits) (shifted_case n k (nat_lt 18 k) refl)

pub whole_in_units : (field : List ℕ) (x : ℤ) → coordinate 0 field ≡ Ok x
    → decimal_coordinate field ≡ Ok (in_units x)
unfolding decimal_coordinate is_decimal is_exponent exponent exponent_text without_sign
whole_in_units field x is =
    let whole = whole_case field x _ _ _ refl refl refl is in
    let number = without_sign field in
    let n = value 0 (whole_part number) in
    let plain = plain_number number whole.number in
    let all = plain_units number plain whole.zeros in
    let within : nat_lt (10 ^ 32) (n * 10 ^ 18) ≡ false = le-ltb _ _ (omega (arith, whole.most)) in
    rw (plain.mantissa, plain.exponent, whole.number, all, within)
    (ap Ok (signed_units (is_negative field) n ∙ ap in_units (sym whole.is)))

-- It is exactly that number.
plain_whole : (number : List ℕ) → IsPlain number → are_zeros (decimals number) ≡ true
    → is_whole_in_units number ≡ true
unfolding is_whole_in_units is_whole_shifted all_digits exponent exponent_text without_sign
plain_whole number plain zeros =
    let n = value 0 (whole_part number) in
    let k = length (decimals number) in
    let worth : n * 10 ^ k + value 0 (decimals number) ≡ n * 10 ^ k =
    omega (arith, zeros_worth (decimals number) zeros) in
    let digits : value 0 (whole_part number ++ decimals number) ≡ n * 10 ^ k =
    value_append 0 (whole_part number) (decimals number) ∙ value_after n (decimals number)
    ∙ worth in
    let moved : n * 10 ^ k * 10 ^ 18 ≡ n * 10 ^ 18 * 10 ^ k = grind arith in
    rw (plain.exponent, plain.mantissa, digits)
    (ap (λ (m : ℕ). m == 0)
    (ap (λ (m : ℕ). m % 10 ^ k) moved ∙ mul-mod_left (n * 10 ^ 18) (10 ^ k)))

pub whole_exact : (field : List ℕ) (x : ℤ) → coordinate 0 field ≡ Ok x
    → is_exact_field field ≡ true
unfolding is_exact_field
whole_exact field x is =
    let whole = whole_case field x _ _ _ refl refl refl is in
    let number = without_sign field in
    plain_whole number (plain_number number whole.number) whole.zeros

pub digits_exact : (field : List ℕ) (n : ℕ) → IsOfDigits (without_sign field) n
    → is_exact_field field ≡ true
unfolding is_exact_field
digits_exact field n is =
    let number = without_sign field in
    let whole = whole_number number n (record { are = is.are; worth = is.worth }) is.some in
    plain_whole number (plain_number number whole.form) whole.zeros

-- A number of a few digits alone.
pub digits_in_units : (field : List ℕ) (n : ℕ) → IsOfDigits (without_sign field) n
    → decimal_coordinate field ≡ Ok (with_sign (is_negative field) (n * 10 ^ 18))
unfolding decimal_coordinate is_decimal is_exponent exponent exponent_text without_sign
digits_in_units field n is =
    let number = without_sign field in
    let whole = whole_number number n (record { are = is.are; worth = is.worth }) is.some in
    let plain = plain_number number whole.form in
    let all = plain_units number plain whole.zeros in
    let worth : value 0 (whole_part number) ≡ n = sym (magnitude_whole number) ∙ whole.worth in
    let within : nat_lt (10 ^ 32) (n * 10 ^ 18) ≡ false = le-ltb _ _ (omega (arith, is.small)) in
    rw (plain.mantissa, plain.exponent, whole.form, all, worth, within) refl
