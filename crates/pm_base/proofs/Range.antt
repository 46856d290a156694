-- How far from 0 products and normals can be.
use Rattle.std.proofs.Common.{◌≡◌, ℕ, ◌*◌, ◌≤◌, w32, to_z, of_z, arith}
use Rattle.std.proofs.lemmas.Grind.{common_steps}
use Rattle.std.specs.Prelude.{ℤ, ◌-ℤ◌, ◌*ℤ◌, unsigned_abs}
use Rattle.std.proofs.lemmas.Nat.{mul-le}
use Rattle.std.proofs.lemmas.Int.{unsigned_abs-mul, to_z-of_z, fits_signed_from_abs}
use Rattle.pm_base.specs.Place.{Place, IsPlace}
use Rattle.pm_base.specs.Geometry.{IsNormal, cross_of}
use Rattle.pm_base.proofs.Squares.{abs_minus}

pub abs_product : (a b : ℤ) (m n : ℕ) → unsigned_abs a ≤ m → unsigned_abs b ≤ n
    → unsigned_abs (a *ℤ b) ≤ m * n
abs_product a b m n p q = rw unsigned_abs-mul (mul-le (unsigned_abs a) (unsigned_abs b) m n p q)

pub minor_small : (a b c d : ℤ) → unsigned_abs a ≤ 65534 → unsigned_abs b ≤ 65534
    → unsigned_abs c ≤ 65534 → unsigned_abs d ≤ 65534 → unsigned_abs (a *ℤ d -ℤ b *ℤ c) ≤ 8589410312
minor_small a b c d p q r s = grind (arith, common_steps, abs_minus, abs_product)

pub above_small : (x y : ℤ) → unsigned_abs x ≤ 32767 → unsigned_abs y ≤ 32767
    → unsigned_abs (x -ℤ y) ≤ 65534
above_small x y p q = omega (arith, abs_minus x y)

pub cross_small : (a b c : Place) → IsPlace a → IsPlace b → IsPlace c → IsNormal (cross_of a b c)
cross_small a b c p q r = grind (arith, common_steps, above_small, minor_small)

-- A coordinate stands in 32 bits.
pub coordinate_kept : (x : ℤ) → unsigned_abs x ≤ 32767 → to_z w32 (of_z w32 x) ≡ x
coordinate_kept x p = to_z-of_z w32 x (fits_signed_from_abs w32 x (omega arith))
