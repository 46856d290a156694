-- Sets of numbers: those below a number, those that a list of flags tells, and how many pass a
-- test.
use Rattle.std.specs.Prelude.{ℕ, zero, suc, ◌+◌, Bool, true, false, List, slice_index_or}
use Rattle.std.specs.List.{range_with_len}

-- The numbers below n, ascending.
abbrev pub numbers_below : ℕ → List ℕ
numbers_below n = range_with_len 0 n

-- The numbers whose flags are set.
abbrev pub set_of : List Bool → ℕ → Bool
set_of flags k = slice_index_or flags k false

abbrev pub one_if : Bool → ℕ
one_if true = 1
one_if false = 0

-- How many numbers below n pass.
unfoldable pub count : (ℕ → Bool) → ℕ → ℕ
count p zero = 0
count p (suc n) = one_if (p n) + count p n
