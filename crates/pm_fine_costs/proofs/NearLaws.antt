-- How far from 0 a rounded quotient can be.
use Rattle.std.proofs.Common.{◌≡◌, ℕ, ◌+◌, ◌*◌, ◌/◌, ◌<◌, ◌≤◌, refl, arith}
use Rattle.std.proofs.lemmas.Grind.{common_steps}
use Rattle.std.specs.Prelude.{ℤ, pos, negsuc, ◌+ℤ◌, ◌*ℤ◌, unsigned_abs}
use Rattle.std.specs.Int.{int_div_euclid}
use Rattle.std.proofs.Math.Nat.{mul-div-le}
use Rattle.std.proofs.lemmas.Nat.{mul-le}
use borrow.Author.Differences.{ints, product_is}
use Rattle.pm_fine.specs.Rounded.{near}

-- a quotient below m
div_less : (n d m : ℕ) → n < d * m → n / d < m
div_less n d m l = grind (arith, common_steps, mul-div-le, mul-le)

twice_is : (a : ℤ) → pos 2 *ℤ a ≡ a +ℤ a
twice_is a = omega (arith, ints, product_is (pos 2) a)

part_small : (z a : ℤ) (b m : ℕ) → 0 < b → z ≡ a +ℤ a +ℤ pos b → unsigned_abs a ≤ m * b
    → unsigned_abs (int_div_euclid z (pos (2 * b))) ≤ m
part_small (pos n) a b m some e h =
    let l : n < 2 * b * (m + 1) = omega (arith, ints) in
    omega (arith, div_less n (2 * b) (m + 1) l)
part_small (negsuc n) a b m some e h =
    let l : n < 2 * b * m = omega (arith, ints) in
    omega (arith, div_less n (2 * b) m l)

pub near_small : (a : ℤ) (b m : ℕ) → 0 < b → unsigned_abs a ≤ m * b → unsigned_abs (near a b) ≤ m
near_small a b m some h = part_small (pos 2 *ℤ a +ℤ pos b) a b m some (rw (twice_is a) refl) h
