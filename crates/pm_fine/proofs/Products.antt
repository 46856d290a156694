-- Products and their sums in matrices and slopes, read back from their bits.
use Rattle.std.proofs.Common.{◌≡◌, ℕ, ◌-◌, ◌*◌, ◌^◌, ◌≤◌, FitsSigned, to_z, of_z, refl, ◌∙◌, w64}
use Rattle.std.proofs.Common.{arith, lit≤, lit<}
use mir.Syntax.{w128}
use Rattle.std.specs.Prelude.{ℤ, ◌+ℤ◌, ◌-ℤ◌, ◌*ℤ◌, unsigned_abs}
use Rattle.std.proofs.lemmas.Int.{to_z-of_z}
use borrow.Author.Differences.{ints}
use Rattle.pm_base.proofs.ReadBack.{read_small}
use Rattle.pm_quadric.proofs.Words.{at_most_product}

-- How great a product of two numbers is.
pub read_product : (a b : ℤ) (m n k : ℕ) → unsigned_abs a ≤ m → unsigned_abs b ≤ n → m ≤ 2 ^ 125
    → n ≤ 2 ^ 125 → m * n ≤ k
    → unsigned_abs (to_z w128 (of_z w128 a)) * unsigned_abs (to_z w128 (of_z w128 b)) ≤ k
read_product a b m n k p q r s t =
    at_most_product _ _ m n k (read_small w128 a m p (omega arith))
    (read_small w128 b n q (omega arith)) t

-- A cofactor times a number of a vector.
pub entry_small : (a x : ℤ) → unsigned_abs a ≤ 2 ^ 67 → unsigned_abs x ≤ 2 ^ 52 - 1
    → unsigned_abs (to_z w128 (of_z w128 a)) * unsigned_abs x ≤ 2 ^ 122
entry_small a x p q =
    at_most_product _ _ (2 ^ 67) (2 ^ 52 - 1) (2 ^ 122) (read_small w128 a (2 ^ 67) p (lit< tt)) q
    (lit≤ tt)

pub abs_fits : (a : ℤ) → FitsSigned w64 a → unsigned_abs a ≤ 2 ^ 63
abs_fits a f = omega (arith, ints)

pub product_is : (r a b : ℤ) → r ≡ to_z w128 (of_z w128 a) *ℤ to_z w128 (of_z w128 b)
    → FitsSigned w128 a → FitsSigned w128 b → r ≡ a *ℤ b
product_is r a b e fa fb = e ∙ simp to_z-of_z

pub difference_is : (r a b a' b' : ℤ) → FitsSigned w128 r
    → r ≡ to_z w128 (of_z w128 a) -ℤ to_z w128 (of_z w128 b)
    → FitsSigned w128 a → FitsSigned w128 b → a ≡ a' → b ≡ b'
    → to_z w128 (of_z w128 r) ≡ a' -ℤ b'
difference_is r a b a' b' fr e fa fb ea eb =
    to_z-of_z w128 r fr ∙ (e ∙ simp to_z-of_z (rw (ea, eb) refl))

-- The product of a row and a vector.
pub row_is : (r a b c x y z : ℤ) → FitsSigned w128 r
    → r ≡ to_z w128 (of_z w128 a) *ℤ x +ℤ to_z w128 (of_z w128 b) *ℤ y
    +ℤ to_z w128 (of_z w128 c) *ℤ z
    → FitsSigned w128 a → FitsSigned w128 b → FitsSigned w128 c
    → to_z w128 (of_z w128 r) ≡ a *ℤ x +ℤ b *ℤ y +ℤ c *ℤ z
row_is r a b c x y z fr e fa fb fc = to_z-of_z w128 r fr ∙ (e ∙ simp to_z-of_z)

-- The sum of four terms.
pub four_are : (r a b c d a' b' c' d' : ℤ) → FitsSigned w128 r
    → r ≡ to_z w128 (of_z w128 a) +ℤ to_z w128 (of_z w128 b) +ℤ to_z w128 (of_z w128 c)
    +ℤ to_z w128 (of_z w128 d)
    → FitsSigned w128 a → FitsSigned w128 b → FitsSigned w128 c → FitsSigned w128 d
    → a ≡ a' → b ≡ b' → c ≡ c' → d ≡ d' → to_z w128 (of_z w128 r) ≡ a' +ℤ b' +ℤ c' +ℤ d'
four_are r a b c d a' b' c' d' fr e fa fb fc fd ea eb ec ed =
    to_z-of_z w128 r fr ∙ (e ∙ simp to_z-of_z (rw (ea, eb, ec, ed) refl))
