-- Laws of the nearest whole number.
use Rattle.std.proofs.Common.{◌≡◌, ℕ, ◌+◌, ◌*◌, ◌/◌, ◌<◌, ◌≤◌, inl, inr, arith}
use Rattle.std.proofs.lemmas.Grind.{common_steps}
use Rattle.std.proofs.lemmas.Bool.{cases_lt}
use borrow.Author.Differences.{ints}
use Rattle.std.proofs.Math.Nat.{div-lt_iff_lt-mul, mul-le-mul_left}
use Rattle.obj_prepare.specs.Numbers.{nearest, parts_off, IsNearest}

-- What is at most the divisor times a size is at most the size.
pub nearest_within : (size extent n : ℕ) → 0 < extent → n ≤ extent
    → nearest (size * n) extent ≤ size
unfolding nearest
nearest_within size extent n l h = grind (arith, common_steps, div-lt_iff_lt-mul, mul-le-mul_left)

-- The quotient is at most half below the nearest whole number, and less than half above it.
pub nearest_is_near : (n d : ℕ) → 0 < d → (2 * (d * nearest n d) ≤ 2 * n + d)
    × (2 * n < 2 * (d * nearest n d) + d)
unfolding nearest
nearest_is_near n d l =
    let r : ℕ = (2 * n + d) / (2 * d) in
    let p : 0 < 2 * d = omega (arith, l) in
    let under : r < r + 1 = omega arith in
    let up : 2 * n + d < (r + 1) * (2 * d) = (div-lt_iff_lt-mul p).0 under in
    let same : (r + 1) * (2 * d) ≡ 2 * (d * r) + 2 * d = grind arith in
    let low : (2 * d) * r ≤ 2 * n + d = omega arith in
    let turned : (2 * d) * r ≡ 2 * (d * r) = grind arith in
    (omega (arith, low, turned), omega (arith, up, same))

-- The parts by which another whole number is off: so many more divisors below or above.
step_below : (d r k : ℕ) → k < r → d * k + d ≤ d * r
step_below d r k l = grind (arith, common_steps, mul-le-mul_left)

pub nearest_is_nearest : (n d : ℕ) → 0 < d → IsNearest n d (nearest n d)
nearest_is_nearest n d some = record { least = least; halves_up = up }
  where
    near : (2 * (d * nearest n d) ≤ 2 * n + d) × (2 * n < 2 * (d * nearest n d) + d)
    near = nearest_is_near n d some

    least : (k : ℕ) → parts_off n d (nearest n d) ≤ parts_off n d k
    least k =
        let r : ℕ = nearest n d in
        elim (cases_lt k r) [
          | inl below ↦ let s = step_below d r k below in omega (arith, ints, near.0, near.1, s)
          | inr from ↦
              elim (cases_lt r k) [
                | inl above ↦ let s =
                    step_below d k r above in omega (arith, ints, near.0, near.1, s)
                | inr most ↦ let same : k ≡ r = omega (arith, from, most) in rw same (omega arith)
              ]
        ]

    up : (k : ℕ) → parts_off n d k ≡ parts_off n d (nearest n d) → k ≤ nearest n d
    up k as_near =
        let r : ℕ = nearest n d in
        elim (cases_lt r k) [
          | inl above ↦ let s =
              step_below d k r above in absurd (omega (arith, ints, near.0, near.1, s, as_near))
          | inr most ↦ most
        ]
