-- Laws of numbers in units.
use Rattle.std.proofs.Common.{◌≡◌, ℕ, zero, suc, ◌+◌, ◌-◌, ◌*◌, ◌^◌, ◌<◌, ◌≤◌, min, true, false}
use Rattle.std.proofs.lemmas.Grind.{common_steps}
use Rattle.std.proofs.Common.{nat_lt, List, [], ◌∷◌, ◌++◌, length, take, get_or, refl, sym, ◌∙◌, ap}
use Rattle.std.proofs.Common.{subst, arith}
use Rattle.std.proofs.Math.Nat.{pow-suc, one-le-pow, pow-le-pow_right}
use Rattle.std.proofs.lemmas.Bool.{and_parts, and_from, lt-ltb, le-leb, lt-leb}
use Rattle.std.proofs.lemmas.List.{length-append}
use Rattle.std.proofs.lemmas.List.Folds.{list_all-append}
use Rattle.pm_io.specs.Digits.{is_digit, are_digits, value}
use Rattle.pm_io.proofs.DigitLaws.{value_cut}
use Rattle.obj_read.specs.Coordinates.{is_negative, whole_part, decimals, is_number}
use Rattle.obj_prepare.specs.Numbers.{shifted, mantissa, exponent_text, is_decimal, exponent}
use Rattle.obj_prepare.specs.Numbers.{all_digits, units_of_text}
use Rattle.obj_prepare.proofs.DigitLaws.{value_append, value_below, nearest_zero}
use Rattle.obj_prepare.proofs.RoundLaws.{zeros_cut, shifted_is}

take_least : (n i : ℕ) (xs : List ℕ) → i ≡ min (length xs) n → take n xs ≡ take i xs
take_least zero i xs is = let z : i ≡ 0 = omega (arith, is) in rw z refl
take_least (suc n) i [] is = let z : i ≡ 0 = omega (arith, is) in rw z refl
take_least (suc n) i (x ∷ xs) is =
    let z : i ≡ suc (min (length xs) n) = omega (arith, is) in
    rw z (ap (λ (l : List ℕ). x ∷ l) (take_least n (min (length xs) n) xs refl))

take_both : (xs ys : List ℕ) (n i j : ℕ) → i ≡ min (length xs) n → j ≡ min (length ys) (n - i)
    → take n (xs ++ ys) ≡ take i xs ++ take j ys
take_both [] ys n i j is js = let z : i ≡ 0 =
    omega (arith, is) in rw z (take_least n j ys (omega (arith, js, z)))
take_both (x ∷ xs) ys zero i j is js = grind (arith, common_steps)
take_both (x ∷ xs) ys (suc n) i j is js =
    let z : i ≡ suc (min (length xs) n) = omega (arith, is) in
    rw z (ap (λ (l : List ℕ). x ∷ l)
    (take_both xs ys n (min (length xs) n) j refl (omega (arith, js, z))))

pub digits_append : (xs ys : List ℕ) → are_digits xs ≡ true → are_digits ys ≡ true
    → are_digits (xs ++ ys) ≡ true
digits_append xs ys all each = list_all-append is_digit xs ys ∙ and_from _ _ all each

-- The number that was read is the one that the first digits make.
rounded_value : (xs ys : List ℕ) (kept i j first second third : ℕ) → i ≡ min (length xs) kept
    → j ≡ min (length ys) (kept - i)
    → first ≡ min (value 0 (take i xs)) (10 ^ 32 + 1)
    → second ≡ min (value first (take j ys)) (10 ^ 32 + 1)
    → third ≡ min (second * 10 ^ (kept - i - j)) (10 ^ 32 + 1)
    → third ≡ min (value 0 (take kept (xs ++ ys)) * 10 ^ (kept - length (xs ++ ys))) (10 ^ 32 + 1)
rounded_value xs ys kept i j first second third is js one two three =
    let len = length-append xs ys in
    let zeros : kept - i - j ≡ kept - length (xs ++ ys) = omega (arith, is, js, len) in
    let whole : value 0 (take kept (xs ++ ys)) ≡ value (value 0 (take i xs)) (take j ys) =
    ap (value 0) (take_both xs ys kept i j is js) ∙ value_append 0 (take i xs) (take j ys) in
    let cut : second ≡ min (value 0 (take kept (xs ++ ys))) (10 ^ 32 + 1) =
    grind (arith, common_steps, value_cut) in
    three ∙ ap (λ (m : ℕ). min (m * 10 ^ (kept - i - j)) (10 ^ 32 + 1)) cut
    ∙ zeros_cut (10 ^ 32 + 1) (value 0 (take kept (xs ++ ys))) (10 ^ (kept - i - j))
    (one-le-pow (kept - i - j) 10 (omega arith))
    ∙ ap (λ (k : ℕ). min (value 0 (take kept (xs ++ ys)) * 10 ^ k) (10 ^ 32 + 1)) zeros

pub rounded_up : (xs ys : List ℕ) (kept i j first second third up down : ℕ) → are_digits xs ≡ true
    → are_digits ys ≡ true → i ≡ min (length xs) kept → j ≡ min (length ys) (kept - i)
    → first ≡ min (value 0 (take i xs)) (10 ^ 32 + 1)
    → second ≡ min (value first (take j ys)) (10 ^ 32 + 1)
    → third ≡ min (second * 10 ^ (kept - i - j)) (10 ^ 32 + 1)
    → 53 ≤ get_or (xs ++ ys) kept 48 → kept + down ≡ length (xs ++ ys) + up
    → min (third + 1) (10 ^ 32 + 1) ≡ min (shifted (value 0 (xs ++ ys)) up down) (10 ^ 32 + 1)
rounded_up xs ys kept i j first second third up down all each is js one two three digit so =
    let value : third ≡ min (value 0 (take kept (xs ++ ys)) * 10 ^ (kept - length (xs ++ ys)))
    (10 ^ 32 + 1) = rounded_value xs ys kept i j first second third is js one two three in
    let n = shifted_is (xs ++ ys) kept up down true (digits_append xs ys all each) so
    (le-leb _ _ digit) in
    rw n (omega (arith, value))

pub rounded_down : (xs ys : List ℕ) (kept i j first second third up down : ℕ) → are_digits xs ≡ true
    → are_digits ys ≡ true → i ≡ min (length xs) kept → j ≡ min (length ys) (kept - i)
    → first ≡ min (value 0 (take i xs)) (10 ^ 32 + 1)
    → second ≡ min (value first (take j ys)) (10 ^ 32 + 1)
    → third ≡ min (second * 10 ^ (kept - i - j)) (10 ^ 32 + 1)
    → get_or (xs ++ ys) kept 48 < 53 → kept + down ≡ length (xs ++ ys) + up
    → min third (10 ^ 32 + 1) ≡ min (shifted (value 0 (xs ++ ys)) up down) (10 ^ 32 + 1)
rounded_down xs ys kept i j first second third up down all each is js one two three digit so =
    let value : third ≡ min (value 0 (take kept (xs ++ ys)) * 10 ^ (kept - length (xs ++ ys)))
    (10 ^ 32 + 1) = rounded_value xs ys kept i j first second third is js one two three in
    let n = shifted_is (xs ++ ys) kept up down false (digits_append xs ys all each) so
    (lt-leb _ _ digit) in
    rw n (omega (arith, value))

-- Where all digits stand past the one that decides, the number is nearest to 0.
shifted_none : (ds : List ℕ) (up down : ℕ) → are_digits ds ≡ true → length ds + up < down
    → shifted (value 0 ds) up down ≡ 0
unfolding shifted
shifted_none ds up down all lt =
    let less : nat_lt up down ≡ true = lt-ltb up down (omega (arith, lt)) in
    let places : down - up ≡ suc (down - up - 1) = omega (arith, lt) in
    let most : 10 ^ length ds ≤ 10 ^ (down - up - 1) =
    pow-le-pow_right {n = 10} (omega arith) (omega (arith, lt)) in
    let below = value_below ds all in
    rw (less, places, pow-suc 10 (down - up - 1))
    (nearest_zero (value 0 ds) (10 ^ (down - up - 1)) (omega (arith, below, most)))

pub whole_digits : (number : List ℕ) → is_decimal number ≡ true
    → are_digits (whole_part (mantissa number)) ≡ true
unfolding is_decimal is_number
whole_digits number is = (and_parts _ _ (and_parts _ _ (and_parts _ _ is).0).0).0

pub decimals_digits : (number : List ℕ) → is_decimal number ≡ true
    → are_digits (decimals (mantissa number)) ≡ true
unfolding is_decimal is_number
decimals_digits number is = (and_parts _ _ (and_parts _ _ (and_parts _ _ is).0).0).1

pub units_forward : (number xs ys : List ℕ) (power n : ℕ) → xs ≡ whole_part (mantissa number)
    → ys ≡ decimals (mantissa number) → is_negative (exponent_text number) ≡ false
    → power ≡ exponent number
    → ((up down : ℕ) → length xs + 18 + power + down ≡ length (xs ++ ys) + up
    → min n (10 ^ 32 + 1) ≡ min (shifted (value 0 (xs ++ ys)) up down) (10 ^ 32 + 1))
    → min n (10 ^ 32 + 1) ≡ min (units_of_text number) (10 ^ 32 + 1)
unfolding units_of_text all_digits
units_forward number xs ys power n a b sign is each =
    let len = length-append xs ys in
    rw (sign, sym is, sym a, sym b) (each (18 + power) (length ys) (omega (arith, len)))

pub units_back : (number xs ys : List ℕ) (power n : ℕ) → xs ≡ whole_part (mantissa number)
    → ys ≡ decimals (mantissa number) → is_negative (exponent_text number) ≡ true
    → power ≡ exponent number → power ≤ length xs + 18
    → ((up down : ℕ) → length xs + 18 - power + down ≡ length (xs ++ ys) + up
    → min n (10 ^ 32 + 1) ≡ min (shifted (value 0 (xs ++ ys)) up down) (10 ^ 32 + 1))
    → min n (10 ^ 32 + 1) ≡ min (units_of_text number) (10 ^ 32 + 1)
unfolding units_of_text all_digits
units_back number xs ys power n a b sign is within each =
    let len = length-append xs ys in
    rw (sign, sym is, sym a, sym b) (each 18 (length ys + power) (omega (arith, len, within)))

pub units_none : (number xs ys : List ℕ) (power : ℕ) → xs ≡ whole_part (mantissa number)
    → ys ≡ decimals (mantissa number) → is_negative (exponent_text number) ≡ true
    → power ≡ exponent number → is_decimal number ≡ true → length xs + 18 < power
    → 0 ≡ min (units_of_text number) (10 ^ 32 + 1)
unfolding units_of_text all_digits
units_none number xs ys power a b sign is fit past =
    let len = length-append xs ys in
    let all = subst (λ (l : List ℕ). are_digits l ≡ true) (sym a) (whole_digits number fit) in
    let each = subst (λ (l : List ℕ). are_digits l ≡ true) (sym b) (decimals_digits number fit) in
    let none = shifted_none (xs ++ ys) 18 (length ys + power) (digits_append xs ys all each)
    (omega (arith, len, past)) in
    rw (sign, sym is, sym a, sym b, none) refl
