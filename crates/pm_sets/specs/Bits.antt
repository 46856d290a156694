-- Flags in words of 64 bits: the flag of number j is bit j % 64 of word j / 64.
use Rattle.std.specs.Prelude.{◌≡◌, ℕ, ◌+◌, ◌*◌, ◌/◌, ◌%◌, ◌<◌, ◌≤◌, ◌==◌, ◌↔◌, Bool, false, List}
use Rattle.std.specs.Prelude.{length, map, slice_index_or}
use Rattle.std.specs.List.{range_with_len}
use Rattle.std.specs.Int.{bit_at}
use Rattle.pm_base.specs.Counts.{set_of}
use Rattle.pm_sets.specs.Sets.{IsGap}
use Rattle.pm_sets.specs.declared.set.TheConstants.{BOUND_LIMIT}

-- Whether a word has a bit.
abbrev pub has_bit : ℕ → ℕ → Bool
has_bit word place = bit_at word place == 1

-- No bit from a on, and below b, is set.
abbrev pub IsBitGap : ℕ → ℕ → ℕ → Type 0
IsBitGap word a b = (j : ℕ) → a ≤ j → j < b → has_bit word j ≡ false

-- The flag of a number.
abbrev pub flag_in : List ℕ → ℕ → Bool
flag_in words j = has_bit (slice_index_or words (j / 64) 0) (j % 64)

-- The flags of the first n numbers.
abbrev pub flags_in : List ℕ → ℕ → List Bool
flags_in words n = map (flag_in words) (range_with_len 0 n)

-- A word for each 64 numbers below the bound, and one in which the bound itself would lie; no
-- number from the bound on has a flag.
pub record AreWords (bound : ℕ) (words : List ℕ) : Type 0 where
  pub few : bound ≤ BOUND_LIMIT
  pub blocks : length words ≡ bound / 64 + 1
  pub none : (j : ℕ) → bound ≤ j → flag_in words j ≡ false

-- A flag for each block of 64 numbers: not set exactly where none of them is in the set.
pub record AreBlocks (numbers blocks : List Bool) : Type 0 where
  pub few : length numbers ≤ BOUND_LIMIT
  pub long : length blocks ≡ length numbers / 64 + 1
  pub each : (b : ℕ) → b < length blocks → (set_of blocks b ≡ false)
      ↔ IsGap numbers (64 * b) (64 * b + 64)
