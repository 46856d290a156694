-- A quotient is the only number whose remainder is from 0 on and below the divisor.
use Rattle.std.proofs.Common.{◌≡◌, ℕ, ◌+◌, ◌*◌, ◌/◌, ◌^◌, ◌<◌, ◌≤◌, true, ap, sym, arith}
use Rattle.std.proofs.Common.{FitsSigned, to_z, of_z}
use mir.Syntax.{w128}
use Rattle.std.specs.Prelude.{ℤ, pos, negsuc, ◌-ℤ◌, ◌*ℤ◌, unsigned_abs, int_le, int_lt}
use Rattle.std.specs.Int.{int_div_euclid}
use Rattle.std.proofs.Math.Nat.{div-eq_of_lt-le, lt-mul-div-succ, mul_assoc, mul_comm}
use Rattle.std.proofs.lemmas.Int.{to_z-of_z}
use Rattle.std.proofs.lemmas.Nat.{pow_pos}
use borrow.Author.Differences.{ints, product_is}

pub quotient_only :
    (a g b r : ℤ) → r ≡ a -ℤ g *ℤ b → int_lt (pos 0) b ≡ true → int_le (pos 0) r ≡ true →
    int_lt r b ≡ true → g ≡ int_div_euclid a b
quotient_only (pos n) (pos k) (pos b) r is some low high =
    sym (ap pos (div-eq_of_lt-le b (omega (arith, ints, product_is (pos k) (pos b)))
    (omega (arith, ints, product_is (pos k) (pos b)))))
quotient_only (pos n) (negsuc k) (pos b) r is some low high =
    absurd (omega (arith, ints, product_is (negsuc k) (pos b)))
quotient_only (negsuc n) (pos k) (pos b) r is some low high =
    absurd (omega (arith, ints, product_is (pos k) (pos b)))
quotient_only (negsuc n) (negsuc k) (pos b) r is some low high =
    sym (ap negsuc (div-eq_of_lt-le b (omega (arith, ints, product_is (negsuc k) (pos b)))
    (omega (arith, ints, product_is (negsuc k) (pos b)))))
quotient_only a g (negsuc b) r is some low high = absurd (omega (arith, ints))

-- A number that is at most so many times another is so when the other loses its last digits.
quotient_reach : (a s p : ℕ) → 0 < p → a ≤ 262137 * s → a ≤ 262137 * (s / p + 1) * p
quotient_reach a s p h k =
    rw (mul_assoc 262137 (s / p + 1) p, mul_comm (s / p + 1) p)
    (omega (arith, lt-mul-div-succ s h))

pub quotient_small : (a d : ℤ) (s k : ℕ) → FitsSigned w128 a
    → unsigned_abs a ≤ 262137 * unsigned_abs (to_z w128 (of_z w128 d))
    → s ≡ unsigned_abs (to_z w128 (of_z w128 d))
    → unsigned_abs (to_z w128 (of_z w128 a)) ≤ 262137 * (s / 2 ^ k + 1) * 2 ^ k
quotient_small a d s k f p e =
    rw (to_z-of_z w128 a f)
    (quotient_reach (unsigned_abs a) s (2 ^ k) (pow_pos k) (rw e p))
