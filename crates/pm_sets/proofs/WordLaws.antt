-- The first and the last bit of a word that is set, counted from either end.
use Rattle.std.proofs.Common.{◌≡◌, ℕ, suc, ◌+◌, ◌-◌, ◌/◌, ◌%◌, ◌^◌, ◌<◌, ◌≤◌, ◌==◌, true}
use Rattle.std.proofs.lemmas.Grind.{common_steps}
use Rattle.std.proofs.Common.{false, sym, ap, ◌∙◌, arith}
use Rattle.std.specs.Int.{bit_at, w64, leading_zeros, trailing_zeros}
use Rattle.std.proofs.lemmas.Nat.{shr-shr, shr_le, leading_top}
use Rattle.std.proofs.lemmas.Nat.Bits.{bit_at-zero, bit_at-trailing_zeros, bit_at_above}
use Rattle.std.proofs.Math.Nat.{div-eq_of_lt-le, pow-suc}
use Rattle.pm_sets.specs.Bits.{has_bit, IsBitGap}

-- a bit is 0 or 1, and its test says which
pub bit_is_set : (word j : ℕ) → bit_at word j ≡ 1 → has_bit word j ≡ true
bit_is_set word j = ap (λ d. d == 1)

pub bit_is_clear : (word j : ℕ) → bit_at word j ≡ 0 → has_bit word j ≡ false
bit_is_clear word j = ap (λ d. d == 1)

pub same_bit : (word other j : ℕ) → bit_at word j ≡ bit_at other j
    → has_bit word j ≡ has_bit other j
same_bit word other j = ap (λ d. d == 1)

-- from a place on the bits are those of the shifted word
module _ (word from : ℕ) where
  shifted : (j : ℕ) → from ≤ j → bit_at word j ≡ bit_at (word / 2 ^ from) (j - from)
  shifted j low = let e : j ≡ from + (j - from) =
      omega (arith, low) in
      ap (bit_at word) e ∙ ap (λ x. x % 2) (sym (shr-shr word from (j - from)))

  pub gap_of_zero : (b : ℕ) → word / 2 ^ from ≡ 0 → IsBitGap word from b
  gap_of_zero b none j low high =
      bit_is_clear word j (shifted j low ∙ ap (λ n. bit_at n (j - from)) none
      ∙ bit_at-zero (j - from))

  module _ (fits : word < 2 ^ 64) (some : 0 < word / 2 ^ from) where
    abbrev lowest : ℕ
    lowest = trailing_zeros w64 (word / 2 ^ from)

    lowest_set : (bit_at (word / 2 ^ from) lowest ≡ 1)
        × ((i : ℕ) → i < lowest → bit_at (word / 2 ^ from) i ≡ 0)
    lowest_set = let is =
        bit_at-trailing_zeros w64 (word / 2 ^ from) some (omega (arith, shr_le word from, fits)) in
        (is.1, is.2)

    first_is_one : bit_at word (from + lowest) ≡ 1
    first_is_one = ap (λ x. x % 2) (sym (shr-shr word from lowest)) ∙ lowest_set.0

    pub first_there : has_bit word (from + lowest) ≡ true
    first_there = bit_is_set word (from + lowest) first_is_one

    pub first_below : from + lowest < 64
    first_below =
        grind (arith, common_steps, first_is_one, bit_at_above word 64 (from + lowest) fits)

    pub first_gap : IsBitGap word from (from + lowest)
    first_gap j low high =
        bit_is_clear word j (shifted j low ∙ lowest_set.1 (j - from) (omega (arith, low, high)))

-- the last bit that is set has the leading zeros alone above it
module _ (word : ℕ) (some : 0 < word) (fits : word < 2 ^ 64) where
  abbrev highest : ℕ
  highest = 63 - leading_zeros w64 word

  highest_between : (2 ^ highest ≤ word) × (word < 2 ^ suc highest)
  highest_between = grind (arith, common_steps, leading_top 64 word some fits)

  pub last_there : has_bit word highest ≡ true
  last_there = grind (arith, common_steps, bit_is_set, div-eq_of_lt-le, highest_between, pow-suc)

  pub last_above : (j : ℕ) → highest < j → has_bit word j ≡ false
  last_above j high =
      bit_is_clear word j
      (bit_at_above word (suc highest) j highest_between.1 (omega (arith, high)))
