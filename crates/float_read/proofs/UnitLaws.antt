-- Laws of numbers times powers of two, in units.
use Rattle.std.proofs.Common.{◌≡◌, ℕ, suc, ◌+◌, ◌-◌, ◌*◌, ◌/◌, ◌^◌, ◌<◌, ◌≤◌, min, inl, inr}
use Rattle.std.proofs.Common.{◌∙◌, ap, arith}
use Rattle.std.proofs.lemmas.Bool.{cases_lt}
use Rattle.std.proofs.lemmas.Grind.{common_steps}
use Rattle.std.proofs.lemmas.Nat.{pow_pos, pow-add}
use Rattle.std.proofs.Math.Nat.{div-eq_of_lt-le, div-eq_of_lt, mul-div-mul_left, mul-div-mul_right}
use Rattle.std.proofs.Math.Nat.{pow-le-pow_right, pow-succ', mul-le-mul_right, div-lt_iff_lt-mul}
use Rattle.obj_prepare.specs.Numbers.{nearest}
use Rattle.float_read.specs.Floats.{units}

-- What is divided by the divisor that it was multiplied by.
nearest_whole : (a d : ℕ) → 0 < d → nearest (a * d) d ≡ a
unfolding nearest
nearest_whole a d some = grind (arith, common_steps, div-eq_of_lt-le)

-- Number and divisor multiplied by one factor.
nearest_scaled : (n d p : ℕ) → 0 < p → nearest (n * p) (d * p) ≡ nearest n d
unfolding nearest
nearest_scaled n d p some =
    let top : 2 * (n * p) + d * p ≡ (2 * n + d) * p = grind arith in
    let low : 2 * (d * p) ≡ 2 * d * p = grind arith in
    rw (top, low) (mul-div-mul_right (2 * n + d) (2 * d) some)

-- An even divisor.
nearest_even : (n h : ℕ) → nearest n (2 * h) ≡ (n + h) / (2 * h)
unfolding nearest
nearest_even n h =
    let top : 2 * n + 2 * h ≡ 2 * (n + h) = grind arith in
    rw top (mul-div-mul_left (n + h) (2 * h) (omega arith))

two_pow : (d : ℕ) → 1 ≤ d → 2 ^ d ≡ 2 * 2 ^ (d - 1)
two_pow d some =
    let s : d ≡ suc (d - 1) = omega arith in
    ap (λ (x : ℕ). 2 ^ x) s ∙ pow-succ' 2 (d - 1)

pub units_up : (m power scale up : ℕ) → power ≡ scale + up
    → units m power scale ≡ 10 ^ 18 * m * 2 ^ up
unfolding units
units_up m power scale up is =
    turned (10 ^ 18) ∙ nearest_whole (10 ^ 18 * m * 2 ^ up) (2 ^ scale) (pow_pos scale)
  where
    turned : (u : ℕ) → nearest (u * (m * 2 ^ power)) (2 ^ scale)
        ≡ nearest (u * m * 2 ^ up * 2 ^ scale) (2 ^ scale)
    turned u = rw (is, pow-add 2 scale up) (ap (λ x. nearest x (2 ^ scale)) (grind arith))

pub units_down : (m power scale d : ℕ) → scale ≡ power + d → 1 ≤ d
    → units m power scale ≡ (10 ^ 18 * m + 2 ^ (d - 1)) / 2 ^ d
unfolding units
units_down m power scale d is some = turned (10 ^ 18)
  where
    turned : (u : ℕ) → nearest (u * (m * 2 ^ power)) (2 ^ scale) ≡ (u * m + 2 ^ (d - 1)) / 2 ^ d
    turned u =
        let two = two_pow d some in
        let low : 2 ^ scale ≡ 2 * 2 ^ (d - 1) * 2 ^ power =
        ap (λ (x : ℕ). 2 ^ x) is ∙ pow-add 2 power d ∙ rw two (grind arith) in
        let top : u * (m * 2 ^ power) ≡ u * m * 2 ^ power = grind arith in
        rw (top, low, two) (nearest_scaled (u * m) (2 * 2 ^ (d - 1)) (2 ^ power) (pow_pos power)
        ∙ nearest_even (u * m) (2 ^ (d - 1)))

pub up_is : (n m power scale : ℕ) → n ≡ m → scale ≤ power
    → units m power scale ≡ n * 10 ^ 18 * 2 ^ (power - scale)
up_is n m power scale is from =
    let turned : 10 ^ 18 * m ≡ n * 10 ^ 18 = omega (arith, is) in
    units_up m power scale (power - scale) (omega arith)
    ∙ ap (λ (x : ℕ). x * 2 ^ (power - scale)) turned

pub down_is : (n m power scale : ℕ) → n ≡ m → power < scale
    → units m power scale
    ≡ (n * 10 ^ 18 + 2 ^ (scale - power - 1)) / 2 ^ (scale - power)
down_is n m power scale is below =
    let turned : 10 ^ 18 * m ≡ n * 10 ^ 18 = omega (arith, is) in
    units_down m power scale (scale - power) (omega arith) (omega arith)
    ∙ ap (λ (x : ℕ). (x + 2 ^ (scale - power - 1)) / 2 ^ (scale - power)) turned

-- Far below half a unit nothing is left.
pub shifted_none : (n down : ℕ) → n < 2 ^ 113 → 114 < down → (n + 2 ^ (down - 1)) / 2 ^ down ≡ 0
shifted_none n down small far =
    let more : 2 ^ 114 ≤ 2 ^ (down - 1) =
    pow-le-pow_right {n = 2} (omega arith) {i = 114} {j = down - 1} (omega arith) in
    rw (two_pow down (omega arith)) (div-eq_of_lt (omega (arith, small, more)))

pub half_fits : (down : ℕ) → down ≤ 114 → 2 ^ (down - 1) ≤ 2 ^ 113
half_fits down l = pow-le-pow_right {n = 2} (omega arith) {i = down - 1} {j = 113} (omega arith)

-- Past the greatest once it is shifted up.
pub shifted_past : (n most up : ℕ) → most / 2 ^ up < n → most < n * 2 ^ up
shifted_past n most up l = (div-lt_iff_lt-mul (pow_pos up)).0 l

-- Further up nothing but 0 stays in range.
shifted_far : (n up least : ℕ) → least ≤ up → 0 < n → 2 ^ least ≤ n * 2 ^ up
shifted_far n up least l some =
    let more : 2 ^ least ≤ 2 ^ up =
    pow-le-pow_right {n = 2} (omega arith) {i = least} {j = up} l in
    let times : 1 * 2 ^ up ≤ n * 2 ^ up = mul-le-mul_right (2 ^ up) some in
    omega (arith, more, times)

pub past_up : (n up near : ℕ) → near ≡ min up 107 → 10 ^ 32 / 2 ^ near < n → 10 ^ 32 < n * 2 ^ up
past_up n up near is past =
    elim (cases_lt up 107) [
      | inl below ↦
          let same : near ≡ up = omega (arith, is, below) in
          shifted_past n (10 ^ 32) up (rw same at past)
      | inr far ↦ omega (arith, shifted_far n up 107 far (omega arith))
    ]
