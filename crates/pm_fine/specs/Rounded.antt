-- Quotients to the nearest whole number, and roots rounded down.
use Rattle.std.specs.Prelude.{ℕ, ◌+◌, ◌-◌, ◌*◌, ◌≤◌, ℤ, pos, ◌+ℤ◌, ◌*ℤ◌}
use Rattle.std.specs.Int.{int_div_euclid}
use Rattle.pm_base.specs.Rounded.{root_up}

-- The whole number nearest to a / b, and of two that are as near the greater.
abbrev pub near : ℤ → ℕ → ℤ
near a b = int_div_euclid (pos 2 *ℤ a +ℤ pos b) (pos (2 * b))

-- The greatest whole number whose square is at most n: one less than the least whose square is
-- above n.
unfoldable pub root : ℕ → ℕ
root n = root_up (n + 1) - 1

-- What that number is, without a search.
pub record IsRoot (n r : ℕ) : Type 0 where
  pub square : r * r ≤ n
  pub most : (m : ℕ) → m * m ≤ n → m ≤ r
