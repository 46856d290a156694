-- Sets of numbers below a bound: a flag for each number.
use Rattle.std.specs.Prelude.{◌≡◌, ℕ, ◌<◌, ◌≤◌, Bool, true, false, List}
use Rattle.pm_base.specs.Counts.{set_of}

-- No number is.
abbrev pub IsEmptySet : List Bool → Type 0
IsEmptySet flags = (j : ℕ) → set_of flags j ≡ false

-- No number from a on, and below b, is.
abbrev pub IsGap : List Bool → ℕ → ℕ → Type 0
IsGap flags a b = (j : ℕ) → a ≤ j → j < b → set_of flags j ≡ false

-- The first number of the set from a on.
pub record IsFirst (flags : List Bool) (a k : ℕ) : Type 0 where
  pub from : a ≤ k
  pub there : set_of flags k ≡ true
  pub none : IsGap flags a k

-- The last number of the set below b.
pub record IsLast (flags : List Bool) (b k : ℕ) : Type 0 where
  pub below : k < b
  pub there : set_of flags k ≡ true
  pub none : (j : ℕ) → k < j → j < b → set_of flags j ≡ false
