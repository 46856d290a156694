-- How far from 0 halves and numbers without their last digits can be, and how many digits they
-- keep.
use Rattle.std.proofs.Common.{ℕ, ◌+◌, ◌*◌, ◌/◌, ◌^◌, ◌<◌, ◌≤◌, arith}
use Rattle.std.proofs.lemmas.Grind.{common_steps}
use Rattle.std.specs.Prelude.{ℤ, pos, negsuc, unsigned_abs}
use Rattle.std.specs.Int.{int_shr}
use Rattle.std.proofs.Math.Nat.{le_refl}
use Rattle.std.proofs.Math.Pow.{pow_mono}
use Rattle.std.proofs.lemmas.Nat.{leading_length, leading_top, shr_below, le-div, mul-le, pow_pos}
use lib.Signed.{shr_z}
use Rattle.pm_fine.specs.Fourth.{half, digits_above}
use Rattle.pm_fine.proofs.NearLaws.{div_less}

cut_within : (z : ℤ) (d m : ℕ) → 0 < d → unsigned_abs z ≤ m * d → unsigned_abs (shr_z z d) ≤ m
cut_within (pos n) d m some h = omega (arith, div_less n d (m + 1) (omega arith))
cut_within (negsuc n) d m some h = omega (arith, div_less n d m (omega arith))

pub short_within : (z : ℤ) (k m : ℕ) → unsigned_abs z ≤ m * 2 ^ k → unsigned_abs (int_shr z k) ≤ m
short_within z k m h = cut_within z (2 ^ k) m (pow_pos k) h

pub half_within : (z : ℤ) (m : ℕ) → unsigned_abs z ≤ m + m → unsigned_abs (half z) ≤ m
half_within (pos n) m h = omega (arith, div_less n 2 (m + 1) (omega arith))
half_within (negsuc n) m h = omega (arith, div_less n 2 m (omega arith))

-- A number keeps at most k digits, and its first one.
pub kept_is : (n k : ℕ) → n < 2 ^ 128 → n / 2 ^ digits_above k n < 2 ^ k
kept_is n k h =
    grind (arith, common_steps, pow_mono, leading_length 128 n h, shr_below n k (digits_above k n))

pub first_is : (n k : ℕ) → n < 2 ^ 128 → 0 < k → 0 < n → 0 < n / 2 ^ digits_above k n
first_is n k h some more =
    let l = leading_top 128 n more h in
    let d : digits_above k n ≤ l.0 = omega (arith, l.1) in
    le-div 1 n (2 ^ digits_above k n) (pow_pos (digits_above k n)) (omega (arith, l.2, pow_mono d))

-- A number below m times another, by what that other keeps.
pub short_reaches : (n b k m : ℕ) → n ≤ m * b → n ≤ m * (b / 2 ^ k + 1) * 2 ^ k
short_reaches n b k m h =
    let w = 2 ^ k in
    let some : 0 < w = pow_pos k in
    let e : b ≤ (b / w + 1) * w = omega arith in
    omega (arith, h, mul-le m b m ((b / w + 1) * w) (le_refl m) e)
