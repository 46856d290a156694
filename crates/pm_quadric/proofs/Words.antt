-- Machine integers at 128 bits, which goals show as bits that are read back.
use Rattle.std.proofs.Common.{◌≡◌, ℕ, ◌*◌, ◌^◌, ◌≤◌, w64, FitsSigned, to_z, of_z, ap, ◌∙◌}
use Rattle.std.proofs.Common.{arith, lit<}
use mir.Syntax.{w128}
use Rattle.std.specs.Prelude.{ℤ, ◌+ℤ◌, ◌*ℤ◌, unsigned_abs}
use Rattle.std.proofs.lemmas.Nat.{mul-le}
use Rattle.std.proofs.Math.Nat.{le_trans}
use Rattle.std.proofs.lemmas.Int.{to_z-of_z, unsigned_abs-mul}
use Rattle.pm_base.proofs.Squares.{abs_plus}
use Rattle.pm_base.proofs.ReadBack.{fits_small, equal_small}

-- An absolute value.
pub abs_read : (r v : ℤ) (n : ℕ) → FitsSigned w128 r → n ≡ unsigned_abs (to_z w128 (of_z w128 r))
    → r ≡ v → n ≡ unsigned_abs v
abs_read r v n f e p = e ∙ ap unsigned_abs (to_z-of_z w128 r f ∙ p)

-- A number that is far from the bound of 64 bits, and known by another.
pub kept_small : (r v : ℤ) (m n : ℕ) → r ≡ v → unsigned_abs v ≤ m → m ≤ n → n ≤ 2 ^ 62
    → unsigned_abs (to_z w64 (of_z w64 r)) ≤ n
kept_small r v m n e p q t = equal_small w64 r v n e (le_trans p q) (omega arith)

-- A product.
pub at_most_product : (a b m n k : ℕ) → a ≤ m → b ≤ n → m * n ≤ k → a * b ≤ k
at_most_product a b m n k p q r = omega (arith, mul-le a b m n p q)

product_at_most : (a b : ℤ) (m : ℕ) → unsigned_abs a * unsigned_abs b ≤ m
    → unsigned_abs (a *ℤ b) ≤ m
product_at_most a b m h = rw unsigned_abs-mul h

product_fits : (a b : ℤ) → unsigned_abs a * unsigned_abs b ≤ 2 ^ 122 → FitsSigned w128 (a *ℤ b)
product_fits a b h = fits_small w128 (a *ℤ b) (2 ^ 122) (product_at_most a b (2 ^ 122) h) (lit< tt)

pub times_fits : (a b : ℤ) → FitsSigned w128 a → FitsSigned w128 b
    → unsigned_abs a * unsigned_abs b ≤ 2 ^ 122
    → FitsSigned w128 (to_z w128 (of_z w128 a) *ℤ to_z w128 (of_z w128 b))
times_fits a b fa fb h = simp to_z-of_z (product_fits a b h)

pub times_is : (a b : ℤ) → FitsSigned w128 a → FitsSigned w128 b
    → unsigned_abs a * unsigned_abs b ≤ 2 ^ 122
    → to_z w128 (of_z w128 (to_z w128 (of_z w128 a) *ℤ to_z w128 (of_z w128 b))) ≡ a *ℤ b
times_is a b fa fb h = let f = product_fits a b h in simp to_z-of_z

pub times_small : (a b : ℤ) → FitsSigned w128 a → FitsSigned w128 b
    → unsigned_abs a * unsigned_abs b ≤ 2 ^ 122
    → unsigned_abs (to_z w128 (of_z w128 (to_z w128 (of_z w128 a) *ℤ to_z w128 (of_z w128 b)))) ≤ 2
    ^ 122
times_small a b fa fb h = rw (times_is a b fa fb h) (product_at_most a b (2 ^ 122) h)

-- A sum, whose bits `sum_read` reads.
abbrev pub sum_read : ℤ → ℤ → ℤ
sum_read a b = to_z w128 (of_z w128 (to_z w128 (of_z w128 a) +ℤ to_z w128 (of_z w128 b)))

sum_small : (a b : ℤ) (m : ℕ) → unsigned_abs a ≤ m → unsigned_abs b ≤ m → m ≤ 2 ^ 125
    → FitsSigned w128 (a +ℤ b)
sum_small a b m p q r = fits_small w128 (a +ℤ b) (2 * m) (omega (arith, abs_plus a b)) (omega arith)

pub sum_fits : (a b : ℤ) (m : ℕ) → unsigned_abs a ≤ m → unsigned_abs b ≤ m → m ≤ 2 ^ 125
    → FitsSigned w128 (to_z w128 (of_z w128 a) +ℤ to_z w128 (of_z w128 b))
sum_fits a b m p q r =
    let fa = fits_small w128 a m p (omega arith) in
    let fb = fits_small w128 b m q (omega arith) in
    simp to_z-of_z (sum_small a b m p q r)

pub sum_is : (a b : ℤ) (m : ℕ) → unsigned_abs a ≤ m → unsigned_abs b ≤ m → m ≤ 2 ^ 125
    → sum_read a b ≡ a +ℤ b
sum_is a b m p q r =
    let fa = fits_small w128 a m p (omega arith) in
    let fb = fits_small w128 b m q (omega arith) in
    let fs = sum_small a b m p q r in
    simp to_z-of_z
