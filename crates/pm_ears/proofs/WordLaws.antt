-- Products of signed numbers of 16 bits, and sums of their areas.
use Rattle.std.proofs.Common.{ℕ, ◌<◌, ◌≤◌, ◌*◌, ◌^◌, FitsSigned, w64, arith}
use mir.Syntax.{w16}
use Rattle.std.specs.Prelude.{ℤ, pos, negsuc, ◌+ℤ◌, ◌*ℤ◌, unsigned_abs}
use Rattle.std.proofs.lemmas.Int.{fits_signed_from_abs}
use Rattle.pm_base.proofs.Range.{abs_product}
use Rattle.pm_base.proofs.Squares.{abs_plus}

abs_w16 : (z : ℤ) → FitsSigned w16 z → unsigned_abs z ≤ 32768
abs_w16 (pos n) f = omega (arith, f.sfits)
abs_w16 (negsuc n) f = omega (arith, f.sfits)

pub product_small : (a b : ℤ) → FitsSigned w16 a → FitsSigned w16 b
    → unsigned_abs (a *ℤ b) ≤ 2 ^ 30
product_small a b f g = omega (arith, abs_product a b 32768 32768 (abs_w16 a f) (abs_w16 b g))

pub fits_within : (z : ℤ) (m : ℕ) → unsigned_abs z ≤ m → m < 2 ^ 63 → FitsSigned w64 z
fits_within z m p q = fits_signed_from_abs w64 z (omega arith)

pub fits_product : (a b : ℤ) → FitsSigned w16 a → FitsSigned w16 b → FitsSigned w64 (a *ℤ b)
fits_product a b f g = fits_within (a *ℤ b) (2 ^ 30) (product_small a b f g) (omega arith)

pub two_small : (a b : ℤ) → unsigned_abs a ≤ 2 ^ 31 → unsigned_abs b ≤ 2 ^ 31
    → unsigned_abs (a +ℤ b) ≤ 2 ^ 32
two_small a b p q = omega (arith, abs_plus a b)

pub three_small : (a b c : ℤ) → unsigned_abs a ≤ 2 ^ 31 → unsigned_abs b ≤ 2 ^ 31
    → unsigned_abs c ≤ 2 ^ 31 → unsigned_abs (a +ℤ b +ℤ c) ≤ 3 * 2 ^ 31
three_small a b c p q r = omega (arith, abs_plus a b, abs_plus (a +ℤ b) c)
