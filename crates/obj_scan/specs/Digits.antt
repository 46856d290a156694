-- Numbers of a few digits alone.
use Rattle.std.specs.Prelude.{◌≡◌, ℕ, ◌<◌, ◌^◌, true, List, length}
use Rattle.pm_io.specs.Digits.{are_digits, value}

-- The text is digits, and these make a number below 10^14.
pub record IsOfDigits (text : List ℕ) (n : ℕ) : Type 0 where
  pub are : are_digits text ≡ true
  pub some : 0 < length text
  pub worth : value 0 text ≡ n
  pub small : n < 10 ^ 14
