-- Machine integers of any width, which goals show as bits that are read back: a number that is far
-- from the bound of its width, and sums, differences and products of such.
use Rattle.std.proofs.Common.{◌≡◌, ℕ, ◌+◌, ◌*◌, ◌^◌, ◌<◌, ◌≤◌, FitsSigned, to_z, of_z, refl}
use Rattle.std.proofs.Common.{arith}
use Rattle.std.proofs.Math.Nat.{le_trans}
use mir.Syntax.{Width}
use mir.Val.{hbits}
use Rattle.std.specs.Prelude.{ℤ, ◌+ℤ◌, ◌-ℤ◌, ◌*ℤ◌, unsigned_abs}
use Rattle.std.proofs.lemmas.Int.{to_z-of_z, fits_signed_from_abs}
use Rattle.pm_base.proofs.Squares.{abs_plus, abs_minus}
use Rattle.pm_base.proofs.Range.{abs_product}

-- A number that is far from the bound of its width.
pub fits_small : (w : Width) (z : ℤ) (m : ℕ) → unsigned_abs z ≤ m → m < 2 ^ hbits w
    → FitsSigned w z
fits_small w z m p q = fits_signed_from_abs w z (omega arith)

pub read_is : (w : Width) (z : ℤ) (m : ℕ) → unsigned_abs z ≤ m → m < 2 ^ hbits w
    → to_z w (of_z w z) ≡ z
read_is w z m p q = to_z-of_z w z (fits_small w z m p q)

pub read_small : (w : Width) (z : ℤ) (m : ℕ) → unsigned_abs z ≤ m → m < 2 ^ hbits w
    → unsigned_abs (to_z w (of_z w z)) ≤ m
read_small w z m p q = rw (read_is w z m p q) p

-- The same of a number that is known by another.
pub equal_small : (w : Width) (r z : ℤ) (m : ℕ) → r ≡ z → unsigned_abs z ≤ m → m < 2 ^ hbits w
    → unsigned_abs (to_z w (of_z w r)) ≤ m
equal_small w r z m e p q = rw e (read_small w z m p q)

-- A number in a wider word.
pub widened : (w v : Width) (z r : ℤ) (m : ℕ) → FitsSigned w z → r ≡ to_z w (of_z w z)
    → unsigned_abs z ≤ m → m < 2 ^ hbits v → to_z v (of_z v r) ≡ z
widened w v z r m f e p q = rw (e, to_z-of_z w z f) (read_is v z m p q)

-- What is computed fits, and is a value that is at most k away from 0.
pub record Computes (w : Width) (z v : ℤ) (k : ℕ) : Type 0 where
  pub fits : FitsSigned w z
  pub value : to_z w (of_z w z) ≡ v
  pub small : unsigned_abs v ≤ k

pub computes : (w : Width) (z v : ℤ) (k : ℕ) → z ≡ v → unsigned_abs v ≤ k → k < 2 ^ hbits w
    → Computes w z v k
computes w z v k e p q = record {
  fits = rw e (fits_small w v k p q);
  value = rw e (read_is w v k p q);
  small = p;
}

pub computed_small : (w : Width) (z v : ℤ) (k : ℕ) → Computes w z v k
    → unsigned_abs (to_z w (of_z w z)) ≤ k
computed_small w z v k h = rw h.value h.small

pub product_computes : (w : Width) (x y a b : ℤ) (m n k : ℕ) → x ≡ a → y ≡ b
    → unsigned_abs a ≤ m → unsigned_abs b ≤ n → m * n ≤ k → k < 2 ^ hbits w
    → Computes w (x *ℤ y) (a *ℤ b) k
product_computes w x y a b m n k ex ey p q r s =
    computes w (x *ℤ y) (a *ℤ b) k (rw (ex, ey) refl) (le_trans (abs_product a b m n p q) r) s

pub sum_computes : (w : Width) (x y a b : ℤ) (m n k : ℕ) → x ≡ a → y ≡ b
    → unsigned_abs a ≤ m → unsigned_abs b ≤ n → m + n ≤ k → k < 2 ^ hbits w
    → Computes w (x +ℤ y) (a +ℤ b) k
sum_computes w x y a b m n k ex ey p q r s =
    computes w (x +ℤ y) (a +ℤ b) k (rw (ex, ey) refl) (omega (arith, abs_plus a b)) s

pub difference_computes : (w : Width) (x y a b : ℤ) (m n k : ℕ) → x ≡ a → y ≡ b
    → unsigned_abs a ≤ m → unsigned_abs b ≤ n → m + n ≤ k → k < 2 ^ hbits w
    → Computes w (x -ℤ y) (a -ℤ b) k
difference_computes w x y a b m n k ex ey p q r s =
    computes w (x -ℤ y) (a -ℤ b) k (rw (ex, ey) refl) (omega (arith, abs_minus a b)) s

-- Two numbers in wider words, and their product there.
pub wide_product : (w v : Width) (r s a b : ℤ) (m n k : ℕ) → FitsSigned w a → FitsSigned w b
    → r ≡ to_z w (of_z w a) → s ≡ to_z w (of_z w b) → unsigned_abs a ≤ m → unsigned_abs b ≤ n
    → m < 2 ^ hbits v → n < 2 ^ hbits v → m * n ≤ k → k < 2 ^ hbits v
    → Computes v (to_z v (of_z v r) *ℤ to_z v (of_z v s)) (a *ℤ b) k
wide_product w v r s a b m n k fa fb er es p q mv nv kk kv =
    product_computes v (to_z v (of_z v r)) (to_z v (of_z v s)) a b m n k
    (widened w v a r m fa er p mv) (widened w v b s n fb es q nv) p q kk kv
