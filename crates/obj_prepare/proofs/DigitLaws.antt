-- Laws of numbers in digits, and of rounding them.
use Rattle.std.proofs.Common.{◌≡◌, ℕ, suc, ◌+◌, ◌-◌, ◌*◌, ◌^◌, ◌<◌, ◌≤◌, min, true, nat_le, List}
use Rattle.std.proofs.lemmas.Grind.{common_steps}
use Rattle.std.proofs.Common.{[], ◌∷◌, ◌++◌, length, drop, get_or, refl, ◌∙◌, ap, arith}
use Rattle.std.proofs.Math.Nat.{pow-suc, mul_comm, div-eq_of_lt-le, div-eq_of_lt, mul-le-mul_right}
use Rattle.std.proofs.lemmas.Bool.{and_parts, leb-true}
use Rattle.pm_io.specs.Digits.{is_digit, are_digits, value}
use Rattle.pm_io.proofs.DigitLaws.{value_step}
use Rattle.obj_prepare.specs.Numbers.{nearest}

-- One digit more was read.
pub value_next : (digits : List ℕ) (i n next start : ℕ) → i < length digits
    → next ≡ min (10 * n + (get_or digits i 0 - 48)) (10 ^ 32 + 1)
    → min (value n (drop i digits)) (10 ^ 32 + 1) ≡ start
    → min (value next (drop (i + 1) digits)) (10 ^ 32 + 1) ≡ start
value_next digits i n next start lt is so = value_step digits i n next start (10 ^ 32 + 1) lt is so

pub value_append : (n : ℕ) (xs ys : List ℕ) → value n (xs ++ ys) ≡ value (value n xs) ys
value_append n [] ys = refl
value_append n (b ∷ bs) ys = value_append (10 * n + (b - 48)) bs ys

-- Digits after a number leave it so many places to the left.
pub value_after : (n : ℕ) (ds : List ℕ) → value n ds ≡ n * 10 ^ length ds + value 0 ds
value_after n [] = omega arith
value_after n (b ∷ bs) =
    let d = b - 48 in
    let p = 10 ^ length bs in
    let here = value_after (10 * n + (b - 48)) bs in
    let there = value_after (10 * 0 + (b - 48)) bs in
    let power = pow-suc 10 (length bs) in
    let spread : (10 * n + (b - 48)) * 10 ^ length bs
    ≡ n * (10 * 10 ^ length bs) + (10 * 0 + (b - 48)) * 10 ^ length bs = grind arith in
    let left : n * 10 ^ suc (length bs) ≡ n * (10 * 10 ^ length bs) =
    ap (λ (q : ℕ). n * q) (power ∙ mul_comm (10 ^ length bs) 10) in
    omega (arith, here, there, spread, left)

pub value_below : (ds : List ℕ) → are_digits ds ≡ true → value 0 ds < 10 ^ length ds
value_below [] all = omega arith
value_below (b ∷ bs) all =
    let parts = and_parts (is_digit b) (are_digits bs) all in
    let digit = and_parts (nat_le 48 b) (nat_le b 57) parts.0 in
    let most : b ≤ 57 = leb-true _ _ digit.1 in
    let rest = value_below bs parts.1 in
    let here = value_after (10 * 0 + (b - 48)) bs in
    let nine : 10 * 0 + (b - 48) ≤ 9 = omega (arith, most) in
    let product : (10 * 0 + (b - 48)) * 10 ^ length bs ≤ 9 * 10 ^ length bs =
    mul-le-mul_right (10 ^ length bs) nine in
    let power : 10 ^ suc (length bs) ≡ 10 ^ length bs * 10 = pow-suc 10 (length bs) in
    omega (arith, rest, here, product, power)

-- A digit d of weight p after a number, and what is less than its weight after it: the digit alone
-- decides.
pub nearest_up : (h d r p : ℕ) → 0 < p → r < p → 5 ≤ d → d ≤ 9
    → nearest (h * (p * 10) + (d * p + r)) (p * 10) ≡ h + 1
unfolding nearest
nearest_up h d r p l below least most =
    grind (arith, common_steps, div-eq_of_lt-le, mul-le-mul_right)

pub nearest_down : (h d r p : ℕ) → 0 < p → r < p → d ≤ 4
    → nearest (h * (p * 10) + (d * p + r)) (p * 10) ≡ h
unfolding nearest
nearest_down h d r p l below most = grind (arith, common_steps, div-eq_of_lt-le, mul-le-mul_right)

-- What is less than a tenth of the divisor is nearest to 0.
pub nearest_zero : (n p : ℕ) → n < p → nearest n (p * 10) ≡ 0
unfolding nearest
nearest_zero n p lt = div-eq_of_lt (omega (arith, lt))
