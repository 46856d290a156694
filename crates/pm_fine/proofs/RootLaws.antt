-- What roots rounded down are, and how a vector's numbers stand to its length.
use Rattle.std.proofs.Common.{◌≡◌, ℕ, ◌+◌, ◌-◌, ◌*◌, ◌^◌, ◌<◌, ◌≤◌, inl, inr, arith}
use Rattle.std.proofs.lemmas.Grind.{common_steps}
use Rattle.std.proofs.Math.Nat.{le_refl}
use Rattle.std.specs.Prelude.{ℤ, ◌-ℤ◌, ◌*ℤ◌, unsigned_abs}
use Rattle.std.proofs.lemmas.Nat.{mul-le}
use Rattle.std.proofs.lemmas.Int.{unsigned_abs-mul}
use Rattle.std.proofs.lemmas.Bool.{cases_lt}
use Rattle.pm_base.specs.Geometry.{square_of}
use Rattle.pm_base.specs.Rounded.{root_up}
use Rattle.pm_base.proofs.Root.{root_up_is, root_up_only}
use Rattle.pm_base.proofs.Squares.{two_products, abs_minus}
use Rattle.pm_fine.specs.Rounded.{root, IsRoot}

root_lt : (x y : ℕ) → x * x < y * y → x < y
root_lt x y h =
    elim (cases_lt x y) [ inl l ↦ l | inr l ↦ absurd (omega (arith, mul-le y y x x l l)) ]

-- The greatest number whose square is at most n is one less than the least whose square is above
-- it.
pub root_only : (n r : ℕ) → r * r ≤ n → n < (r + 1) * (r + 1) → r ≡ root n
unfolding root
root_only n r p q = grind (arith, common_steps, root_lt, root_up_only)

-- and so it is what it is said to be
some_up : (n : ℕ) → 1 ≤ root_up (n + 1)
some_up n = grind (arith, common_steps, root_up_is (n + 1))

square_kept : (n j : ℕ) → root_up (n + 1) ≡ j + 1 → j * j ≤ n
square_kept n j e = grind (arith, common_steps, root_up_is (n + 1))

most_kept : (n j : ℕ) → root_up (n + 1) ≡ j + 1 → (m : ℕ) → m * m ≤ n → m ≤ j
most_kept n j e m h = grind (arith, common_steps, root_lt m (j + 1), root_up_is (n + 1))

pub root_is : (n : ℕ) → IsRoot n (root n)
unfolding root
root_is n =
    let e : root_up (n + 1) ≡ root_up (n + 1) - 1 + 1 = omega (arith, some_up n) in
    record {
      square = square_kept n (root_up (n + 1) - 1) e;
      most =
          most_kept n (root_up (n + 1) - 1) e;
    }

-- The root of a root, for a number q of at most 3 * 2 ^ 66: p is the first root of q * 2 ^ 48, and
-- r the second.
square_le : (x y : ℕ) → x ≤ y → x * x ≤ y * y
square_le x y h = mul-le x x y y h h

pub twice_small : (q p r : ℕ) → q ≤ 3 * 2 ^ 66 → p * p ≤ q * 2 ^ 48 → r * r ≤ p
    → r ≤ 2 ^ 29 - 2 ^ 25
twice_small q p r h f s =
    grind (arith, common_steps, square_le 503316480 r, square_le (503316480 * 503316480) p)

pub twice_some : (q p r : ℕ) → 0 < q → q * 2 ^ 48 < (p + 1) * (p + 1) → p < (r + 1) * (r + 1)
    → 4096 ≤ r
twice_some q p r h f s =
    grind (arith, common_steps, square_le (r + 1) 4096, square_le (p + 1) (4096 * 4096))

-- each number of the vector is at most its length
below_both : (m q p r : ℕ) → m * m ≤ q → q * 2 ^ 48 < (p + 1) * (p + 1) → p < (r + 1) * (r + 1)
    → m * 2 ^ 24 < (r + 1) * (r + 1)
below_both m q p r h f s = let a = root_lt (m * 2 ^ 24) (p + 1) (omega (arith, h, f)) in
    omega (arith, a, s)

pub twice_reaches : (q p r : ℕ) → q * 2 ^ 48 < (p + 1) * (p + 1) → p < (r + 1) * (r + 1) → 4096 ≤ r
    → r ≤ 2 ^ 29 - 2 ^ 25 → (m : ℕ) → m * m ≤ q → m * 2 ^ 18 ≤ 8388607 * r
twice_reaches q p r f s some most m h =
    let a = below_both m q p r h f s in
    let b = mul-le r r r 503316480 (le_refl r) most in
    omega (arith, a, b)

-- One root of q * 2 ^ 24.
pub once_some : (q r : ℕ) → 0 < q → q * 2 ^ 24 < (r + 1) * (r + 1) → 4096 ≤ r
once_some q r h f = grind (arith, common_steps, square_le)

pub once_small : (q r : ℕ) → q ≤ 3 * 2 ^ 66 → r * r ≤ q * 2 ^ 24 → r < 2 ^ 46
once_small q r h f = grind (arith, common_steps, square_le)

pub once_reaches : (q r : ℕ) → q * 2 ^ 24 < (r + 1) * (r + 1) → 4096 ≤ r → (m : ℕ)
    → m * m ≤ 8589410312 * q → m * 2883584 ≤ 67108863 * (2 * r)
once_reaches q r f some m h = grind (arith, common_steps, root_lt (m * 4096) (92680 * (r + 1)))

-- The determinant of two numbers of a way and two of a normal is at most the product of their
-- lengths.
products_square : (a b c d : ℕ)
    → (a * d + b * c) * (a * d + b * c) ≤ (a * a + b * b) * (c * c + d * d)
products_square a b c d = omega (arith, two_products (a * c) (b * d))

way_square : (a b c d : ℕ) → a ≤ 65534 → b ≤ 65534
    → (a * d + b * c) * (a * d + b * c) ≤ 8589410312 * (c * c + d * d)
way_square a b c d p q =
    let s = square_le a 65534 p in
    let t = square_le b 65534 q in
    let u = mul-le (a * a + b * b) (c * c + d * d) 8589410312 (c * c + d * d) (omega (arith, s, t))
    (le_refl (c * c + d * d)) in
    omega (arith, products_square a b c d, u)

pub minor_square : (a b c d : ℤ) (q : ℕ) → unsigned_abs a ≤ 65534 → unsigned_abs b ≤ 65534
    → square_of (unsigned_abs c) + square_of (unsigned_abs d) ≤ q
    → square_of (unsigned_abs (a *ℤ d -ℤ b *ℤ c)) ≤ 8589410312 * q
minor_square a b c d q p r h =
    let e : unsigned_abs (a *ℤ d -ℤ b *ℤ c) ≤ unsigned_abs a * unsigned_abs d + unsigned_abs
    b * unsigned_abs c =
    omega (arith, abs_minus (a *ℤ d) (b *ℤ c), unsigned_abs-mul a d, unsigned_abs-mul b c) in
    let s = square_le _ _ e in
    omega (
      arith,
      s,
      way_square (unsigned_abs a) (unsigned_abs b) (unsigned_abs c) (unsigned_abs d)
          p r,
      h,
    )
