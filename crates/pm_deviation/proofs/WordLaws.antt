-- Signed numbers that the code passes on, which goals show as bits that are read back.
use Rattle.std.proofs.Common.{◌≡◌, ℕ, ◌≤◌, FitsSigned, to_z, of_z, arith}
use mir.Syntax.{Width}
use Rattle.std.specs.Prelude.{ℤ, pos, neg_ℤ, ◌-ℤ◌, unsigned_abs}
use Rattle.std.proofs.lemmas.Int.{to_z-of_z}
use borrow.Author.Differences.{ints}

pub passed_small : (w : Width) (z v : ℤ) (m : ℕ) → FitsSigned w z → z ≡ v → unsigned_abs v ≤ m
    → unsigned_abs (to_z w (of_z w z)) ≤ m
passed_small w z v m f e s = simp to_z-of_z (rw e s)

pub zero_minus : (z : ℤ) → pos 0 -ℤ z ≡ neg_ℤ z
zero_minus z = omega (arith, ints)

pub minus_small : (z : ℤ) (m : ℕ) → unsigned_abs z ≤ m → unsigned_abs (pos 0 -ℤ z) ≤ m
minus_small z m p = omega (arith, ints)
