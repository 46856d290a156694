-- Consecutive numbers, in two parts and one number on.
use Rattle.std.proofs.Common.{◌≡◌, ℕ, zero, suc, ◌+◌, List, [], ◌∷◌, ◌++◌, refl, ap, arith}
use Rattle.std.specs.List.{range_with_len}

pub range_parts : (a m n : ℕ) → range_with_len a (m + n) ≡ range_with_len a m
    ++ range_with_len (a + m) n
range_parts a zero n = let start : a + 0 ≡ a = omega arith in let count : 0 + n ≡ n =
    omega arith in rw (count, start) refl
range_parts a (suc m) n =
    let start : a + suc m ≡ (a + 1) + m = omega arith in
    let count : suc m + n ≡ suc (m + n) = omega arith in
    rw (count, start) (ap (λ (l : List ℕ). a ∷ l) (range_parts (a + 1) m n))

-- The numbers below n and n itself are those below n + 1.
pub numbers_next : (n : ℕ) → range_with_len 0 (n + 1) ≡ range_with_len 0 n ++ n ∷ []
numbers_next n = let start : 0 + n ≡ n = omega arith in rw start at (range_parts 0 n 1)
