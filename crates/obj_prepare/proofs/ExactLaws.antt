-- Laws of numbers that are whole numbers of units.
use Rattle.std.proofs.Common.{◌≡◌, ℕ, zero, suc, ◌+◌, ◌-◌, ◌*◌, ◌%◌, ◌^◌, ◌<◌, ◌≤◌, min, Bool, true}
use Rattle.std.proofs.Common.{false, ◌==◌, ◌&&◌, nat_le, nat_lt, List, [], ◌∷◌, ◌++◌, length, take}
use Rattle.std.proofs.Common.{drop, refl, sym, ◌∙◌, ap, subst, arith, if◌then◌else◌}
use Rattle.std.proofs.Math.Nat.{one-le-pow, mul-mod_left, mul-le-mul_right, pow-le-pow_right}
use Rattle.std.proofs.Math.Arith.{digits_mod}
use Rattle.std.proofs.lemmas.Bool.{and_parts, leb-true, ltb-true, ltb-false, eqb-true, eqb-false}
use Rattle.std.proofs.lemmas.Bool.{ne_eqb}
use Rattle.std.proofs.lemmas.Nat.{pow-add}
use Rattle.std.proofs.lemmas.List.{drop_all, drop_min, length-append, length-drop, take-append-drop}
use Rattle.std.proofs.lemmas.List.Folds.{list_all-append}
use Rattle.pm_io.specs.Digits.{is_digit, are_digits, value}
use Rattle.obj_lines.specs.Text.{until}
use Rattle.obj_read.specs.Coordinates.{are_zeros, is_negative, whole_part, decimals}
use Rattle.obj_prepare.specs.Numbers.{mantissa, exponent_text, is_decimal, exponent, all_digits}
use Rattle.obj_prepare.specs.Numbers.{is_whole_shifted, is_whole_in_units}
use Rattle.obj_prepare.proofs.DigitLaws.{value_append, value_after, value_below}
use Rattle.obj_prepare.proofs.RoundLaws.{digits_drop}
use Rattle.obj_prepare.proofs.UnitLaws.{digits_append, whole_digits, decimals_digits}

-- Digits after the first ones of two texts.

drop_least : (n i : ℕ) (xs : List ℕ) → i ≡ min (length xs) n → drop n xs ≡ drop i xs
drop_least n i xs is =
    let same : min n (length xs) ≡ i = omega (arith, is) in
    sym (drop_min n xs) ∙ ap (λ (k : ℕ). drop k xs) same

drop_both : (xs ys : List ℕ) (n i j : ℕ) → i ≡ min (length xs) n
    → j ≡ min (length ys) (n - length xs) → drop n (xs ++ ys) ≡ drop i xs ++ drop j ys
drop_both [] ys n i j is js =
    let z : i ≡ 0 = omega (arith, is) in rw z (drop_least n j ys (omega (arith, js)))
drop_both (x ∷ xs) ys zero i j is js =
    let a : i ≡ 0 = omega (arith, is) in let b : j ≡ 0 = omega (arith, js) in rw (a, b) refl
drop_both (x ∷ xs) ys (suc n) i j is js =
    let z : i ≡ suc (min (length xs) n) = omega (arith, is) in
    rw z (drop_both xs ys n (min (length xs) n) j refl (omega (arith, js)))

pub zeros_after : (xs ys : List ℕ) (n i j : ℕ) → i ≡ min (length xs) n
    → j ≡ min (length ys) (n - length xs)
    → are_zeros (drop n (xs ++ ys)) ≡ (are_zeros (drop i xs) && are_zeros (drop j ys))
zeros_after xs ys n i j is js =
    ap (λ (l : List ℕ). are_zeros l) (drop_both xs ys n i j is js)
    ∙ list_all-append (λ b. b == 48) (drop i xs) (drop j ys)

-- Digits make 0 exactly where all are 0.

zeros_case : (b : ℕ) (bs : List ℕ) (t : Bool) → (b == 48) ≡ t → 48 ≤ b
    → (value 0 bs == 0) ≡ are_zeros bs → (value 0 (b ∷ bs) == 0) ≡ are_zeros (b ∷ bs)
zeros_case b bs true is least more =
    let none : 10 * 0 + (b - 48) ≡ 0 = omega (arith, eqb-true b 48 is) in
    rw is (ap (λ (m : ℕ). value m bs == 0) none ∙ more)
zeros_case b bs false is least more =
    let some : 1 ≤ 10 * 0 + (b - 48) = grind (arith, eqb-false b 48 is) in
    let product : 1 * 10 ^ length bs ≤ (10 * 0 + (b - 48)) * 10 ^ length bs =
    mul-le-mul_right (10 ^ length bs) some in
    let power = one-le-pow (length bs) 10 (omega arith) in
    let worth = value_after (10 * 0 + (b - 48)) bs in
    rw is (ne_eqb _ 0 (λ e. omega (arith, e, worth, product, power)))

zeros_value : (ds : List ℕ) → are_digits ds ≡ true → (value 0 ds == 0) ≡ are_zeros ds
zeros_value [] all = refl
zeros_value (b ∷ bs) all =
    let parts = and_parts (is_digit b) (are_digits bs) all in
    let digit = and_parts (nat_le 48 b) (nat_le b 57) parts.0 in
    zeros_case b bs (b == 48) refl (leb-true _ _ digit.0) (zeros_value bs parts.1)

-- A product is 0 exactly where its first part is.
product_zero : (r p : ℕ) → 0 < p → (r * p == 0) ≡ (r == 0)
product_zero zero p some =
    let none : 0 * p ≡ 0 = omega arith in ap (λ (m : ℕ). m == 0) none
product_zero (suc r) p some =
    let least : 1 * p ≤ suc r * p = mul-le-mul_right p (omega arith) in
    let left : (suc r * p == 0) ≡ false =
    ne_eqb (suc r * p) 0 (λ e. omega (arith, e, least, some)) in
    left ∙ sym (ne_eqb (suc r) 0 (λ e. omega (arith, e)))

-- What is left of a number, where its digits are moved to the left.
moved_rest : (n q r k up down : ℕ) → down ≡ k + up → n ≡ q * 10 ^ k + r → r < 10 ^ k
    → n * 10 ^ up % 10 ^ down ≡ r * 10 ^ up
moved_rest n q r k up down is so below =
    let p : 10 ^ down ≡ 10 ^ k * 10 ^ up = ap (λ (m : ℕ). 10 ^ m) is ∙ pow-add 10 k up in
    let some = one-le-pow up 10 (omega arith) in
    let whole : n * 10 ^ up ≡ q * (10 ^ k * 10 ^ up) + r * 10 ^ up = rw so (grind arith) in
    let most : (r + 1) * 10 ^ up ≤ 10 ^ k * 10 ^ up =
    mul-le-mul_right (10 ^ up) (omega (arith, below)) in
    let less : r * 10 ^ up < 10 ^ k * 10 ^ up = omega (arith, most, some) in
    rw (p, whole) (digits_mod q less)

moved_zero : (n q r k up down : ℕ) → down ≡ k + up → n ≡ q * 10 ^ k + r → r < 10 ^ k
    → is_whole_shifted n up down ≡ (r == 0)
unfolding is_whole_shifted
moved_zero n q r k up down is so below =
    ap (λ (m : ℕ). m == 0) (moved_rest n q r k up down is so below)
    ∙ product_zero r (10 ^ up) (one-le-pow up 10 (omega arith))

-- A number before a cut, and the number after it.
cut_parts : (kept : ℕ) (ds : List ℕ)
    → value 0 ds ≡ value 0 (take kept ds) * 10 ^ (length ds - kept) + value 0 (drop kept ds)
cut_parts kept ds =
    ap (value 0) (sym (take-append-drop kept ds))
    ∙ value_append 0 (take kept ds) (drop kept ds)
    ∙ value_after (value 0 (take kept ds)) (drop kept ds)
    ∙ ap (λ (l : ℕ). value 0 (take kept ds) * 10 ^ l + value 0 (drop kept ds))
    (length-drop kept ds)

cut_below : (kept : ℕ) (ds : List ℕ) → are_digits ds ≡ true
    → value 0 (drop kept ds) < 10 ^ (length ds - kept)
cut_below kept ds all =
    subst (λ (l : ℕ). value 0 (drop kept ds) < 10 ^ l) (length-drop kept ds)
    (value_below (drop kept ds) (digits_drop kept ds all))

past_whole : (n up down : ℕ) → down ≤ up → is_whole_shifted n up down ≡ true
unfolding is_whole_shifted
past_whole n up down le =
    let p : 10 ^ up ≡ 10 ^ (up - down) * 10 ^ down =
    ap (λ (m : ℕ). 10 ^ m) (omega (arith, le)) ∙ pow-add 10 (up - down) down in
    let whole : n * 10 ^ up ≡ n * 10 ^ (up - down) * 10 ^ down = rw p (grind arith) in
    ap (λ (m : ℕ). m == 0)
    (ap (λ (m : ℕ). m % 10 ^ down) whole ∙ mul-mod_left (n * 10 ^ (up - down)) (10 ^ down))

whole_cases : (ds : List ℕ) (up down : ℕ) (less far : Bool) → are_digits ds ≡ true
    → nat_lt up down ≡ less → nat_lt (length ds + up) down ≡ far
    → is_whole_shifted (value 0 ds) up down ≡ are_zeros (drop (length ds + up - down) ds)
whole_cases ds up down false far all a b =
    let none : drop (length ds + up - down) ds ≡ [] =
    drop_all (length ds + up - down) ds (omega (arith, ltb-false _ _ a)) in
    past_whole (value 0 ds) up down (ltb-false _ _ a)
    ∙ ap (λ (l : List ℕ). are_zeros l) (sym none)
whole_cases ds up down true false all a b =
    let kept = length ds + up - down in
    let l = ltb-true _ _ a in
    let f = ltb-false _ _ b in
    let k : length ds - (length ds + up - down) ≡ down - up = omega (arith, l, f) in
    moved_zero (value 0 ds) (value 0 (take kept ds)) (value 0 (drop kept ds)) (down - up) up down
    (omega (arith, l)) (cut_parts kept ds
    ∙ ap (λ (m : ℕ). value 0 (take kept ds) * 10 ^ m + value 0 (drop kept ds)) k)
    (subst (λ (m : ℕ). value 0 (drop kept ds) < 10 ^ m) k (cut_below kept ds all))
    ∙ zeros_value (drop kept ds) (digits_drop kept ds all)
whole_cases ds up down true true all a b =
    let l = ltb-true _ _ a in
    let f = ltb-true _ _ b in
    let none : length ds + up - down ≡ 0 = omega (arith, f) in
    let most : 10 ^ length ds ≤ 10 ^ (down - up) =
    pow-le-pow_right {n = 10} (omega arith) (omega (arith, f)) in
    let below = value_below ds all in
    let same : drop (length ds + up - down) ds ≡ ds = ap (λ (k : ℕ). drop k ds) none in
    moved_zero (value 0 ds) 0 (value 0 ds) (down - up) up down
    (omega (arith, l)) (omega arith) (omega (arith, below, most))
    ∙ zeros_value ds all ∙ ap (λ (l : List ℕ). are_zeros l) (sym same)

-- Digits that are moved make a whole number exactly where those past the point are 0.
whole_is : (ds : List ℕ) (up down : ℕ) → are_digits ds ≡ true
    → is_whole_shifted (value 0 ds) up down ≡ are_zeros (drop (length ds + up - down) ds)
whole_is ds up down all = whole_cases ds up down _ _ all refl refl

-- The digits of a number past its last unit.

parts_digits : (number xs ys : List ℕ) → is_decimal number ≡ true
    → xs ≡ whole_part (mantissa number) → ys ≡ decimals (mantissa number)
    → are_digits (xs ++ ys) ≡ true
parts_digits number xs ys fit a b =
    digits_append xs ys
    (subst (λ (l : List ℕ). are_digits l ≡ true) (sym a) (whole_digits number fit))
    (subst (λ (l : List ℕ). are_digits l ≡ true) (sym b) (decimals_digits number fit))

pub whole_forward : (number xs ys : List ℕ) (kept : ℕ) → is_decimal number ≡ true
    → xs ≡ whole_part (mantissa number) → ys ≡ decimals (mantissa number)
    → is_negative (exponent_text number) ≡ false → kept ≡ length xs + 18 + exponent number
    → are_zeros (drop kept (xs ++ ys)) ≡ is_whole_in_units number
unfolding is_whole_in_units all_digits
whole_forward number xs ys kept fit a b sign is =
    let e = exponent number in
    let len = length-append xs ys in
    let n : length (xs ++ ys) + (18 + exponent number) - length ys ≡ kept =
    omega (arith, len, is) in
    rw (sign, sym a, sym b)
    (sym (whole_is (xs ++ ys) (18 + e) (length ys) (parts_digits number xs ys fit a b)
    ∙ ap (λ (k : ℕ). are_zeros (drop k (xs ++ ys))) n))

pub whole_back : (number xs ys : List ℕ) (kept : ℕ) → is_decimal number ≡ true
    → xs ≡ whole_part (mantissa number) → ys ≡ decimals (mantissa number)
    → is_negative (exponent_text number) ≡ true → kept ≡ length xs + 18 - exponent number
    → are_zeros (drop kept (xs ++ ys)) ≡ is_whole_in_units number
unfolding is_whole_in_units all_digits
whole_back number xs ys kept fit a b sign is =
    let e = exponent number in
    let len = length-append xs ys in
    let n : length (xs ++ ys) + 18 - (length ys + exponent number) ≡ kept =
    omega (arith, len, is) in
    rw (sign, sym a, sym b)
    (sym (whole_is (xs ++ ys) 18 (length ys + e) (parts_digits number xs ys fit a b)
    ∙ ap (λ (k : ℕ). are_zeros (drop k (xs ++ ys))) n))

-- A number of at most 18 bytes without an exponent has no digit past the last unit.

until_short : (stop : ℕ) (text : List ℕ) → length (until stop text) ≤ length text
until_short stop [] = omega arith
until_short stop (b ∷ bs) = until_case (b == stop) (until_short stop bs)
  where
    until_case : (t : Bool) → length (until stop bs) ≤ length bs
        → length (if t then [] else b ∷ until stop bs) ≤ length (b ∷ bs)
    until_case true more = omega arith
    until_case false more = omega (arith, more)

few_decimals : (number : List ℕ) → length (decimals (mantissa number)) ≤ length number
unfolding decimals mantissa
few_decimals number =
    let n = until 101 (until 69 number) in
    omega (
      arith,
      length-drop (length (until 46 n) + 1) n,
      until_short 101 (until 69 number),
      until_short 69 number,
    )

few_case : (number : List ℕ) (back : Bool) → is_negative (exponent_text number) ≡ back
    → length number ≤ 18 → exponent number ≡ 0 → is_whole_in_units number ≡ true
unfolding is_whole_in_units
few_case number true sign few none =
    rw sign (past_whole (all_digits number) 18 (length (decimals (mantissa number))
    + exponent number) (omega (arith, few_decimals number, few, none)))
few_case number false sign few none =
    rw sign (past_whole (all_digits number) (18 + exponent number)
    (length (decimals (mantissa number))) (omega (arith, few_decimals number, few)))

pub few_are_whole : (number : List ℕ) → length number ≤ 18 → exponent number ≡ 0
    → is_whole_in_units number ≡ true
few_are_whole number few none = few_case number _ refl few none
