-- How far from 0 the numbers of Cramer's rule can be.
use Rattle.std.proofs.Common.{ℕ, ◌+◌, ◌*◌, ◌^◌, ◌<◌, ◌≤◌, sym, subst, arith}
use Rattle.std.specs.Prelude.{ℤ, ◌+ℤ◌, ◌*ℤ◌, unsigned_abs}
use Rattle.pm_base.proofs.Squares.{abs_plus}
use Rattle.pm_base.proofs.Range.{abs_product}
use Rattle.pm_quadric.specs.Sums.{Sums}
use Rattle.pm_fine.specs.declared.matrix.Matrix.{Matrix}
use Rattle.pm_fine.specs.FineSums.{IsFineSmall, IsFineQuadric}
use Rattle.pm_fine.specs.Within.{IsMatrixWithin}
use Rattle.pm_fine.specs.Fourth.{half, matrix_of, short_matrix}
use Rattle.pm_fine.proofs.Balance.{IsBalanced, balanced}
use Rattle.pm_fine.proofs.CutLaws.{half_within, short_within}

-- The product of the first row of a matrix and that of its cofactors.
abbrev pub first_row : Matrix → Matrix → ℤ
first_row a k = a.xx *ℤ k.xx +ℤ a.xy *ℤ k.xy +ℤ a.xz *ℤ k.xz

pub determinant_small : (a k : Matrix) → IsMatrixWithin (2 ^ 33) a → IsMatrixWithin (2 ^ 67) k
    → unsigned_abs (first_row a k) < 2 ^ 102
determinant_small a k p q =
    omega (
      arith,
      abs_plus (a.xx *ℤ k.xx +ℤ a.xy *ℤ k.xy) (a.xz *ℤ k.xz),
      abs_plus (a.xx *ℤ k.xx) (a.xy *ℤ k.xy),
      abs_product a.xx k.xx (2 ^ 33) (2 ^ 67) p.0 q.0,
      abs_product a.xy k.xy (2 ^ 33) (2 ^ 67) p.1 q.1,
      abs_product a.xz k.xz (2 ^ 33) (2 ^ 67) p.2 q.2,
    )

-- The matrix of a quadric. No number of it is further from 0 than those on its diagonal.
half_of : (z : ℤ) → unsigned_abs z ≤ 2 ^ 80 → unsigned_abs (half z) ≤ 2 ^ 80
half_of z h = half_within z (2 ^ 80) (omega (arith, h))

pub matrix_small : (s : Sums) → IsFineSmall s → IsMatrixWithin (2 ^ 80) (matrix_of s)
matrix_small s h = (h.xx, half_of s.xy h.xy, half_of s.xz h.xz, h.yy, half_of s.yz h.yz, h.zz)

abbrev pub IsBalancedMatrix : Matrix → Type 0
IsBalancedMatrix a =
    (m : ℕ) → unsigned_abs a.xx ≤ m → unsigned_abs a.yy ≤ m → unsigned_abs a.zz ≤ m
    → IsMatrixWithin m a

half_below : (z x y : ℤ) (m : ℕ) → unsigned_abs z ≤ unsigned_abs x + unsigned_abs y
    → unsigned_abs x ≤ m → unsigned_abs y ≤ m → unsigned_abs (half z) ≤ m
half_below z x y m h p q = half_within z m (omega (arith, h, p, q))

from_balance : (s : Sums) → IsBalanced s → IsBalancedMatrix (matrix_of s)
from_balance s b m p q r = (
  p,
  half_below s.xy s.xx s.yy m b.xy p q,
  half_below s.xz s.xx s.zz m b.xz p r,
  q,
  half_below s.yz s.yy s.zz m b.yz q r,
  r,
)

pub matrix_balanced : (s : Sums) → IsFineQuadric s → IsBalancedMatrix (matrix_of s)
matrix_balanced s h =
    from_balance s (subst IsBalanced (sym h.stands.sums) (balanced h.stands.planes))

-- What is left of a matrix without its last digits.
pub matrix_short : (a : Matrix) (k m : ℕ) → IsMatrixWithin (m * 2 ^ k) a
    → IsMatrixWithin m (short_matrix k a)
matrix_short a k m h = (
  short_within a.xx k m h.0,
  short_within a.xy k m h.1,
  short_within a.xz k m h.2,
  short_within a.yy k m h.3,
  short_within a.yz k m h.4,
  short_within a.zz k m h.5,
)
