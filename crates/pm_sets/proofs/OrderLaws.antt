-- Gaps, and the first and the last number of a set: they are joined and carried on, and there is
-- one alone.
use Rattle.std.proofs.Common.{◌≡◌, ℕ, ◌≤◌, Bool, List, length, inl, inr, arith}
use Rattle.std.proofs.lemmas.Grind.{common_steps}
use Rattle.std.proofs.lemmas.Bool.{cases_lt, both_ways}
use Rattle.pm_sets.specs.Sets.{IsEmptySet, IsGap, IsFirst, IsLast}
use Rattle.pm_sets.proofs.FlagLaws.{in_below, out_of_bound}

module _ (flags : List Bool) where
  pub gap_join : (a b c : ℕ) → IsGap flags a b → IsGap flags b c → IsGap flags a c
  gap_join a b c one two j low high =
      elim (cases_lt j b) [ inl l ↦ one j low l | inr past ↦ two j past high ]

  pub no_member : IsGap flags 0 (length flags) → IsEmptySet flags
  no_member gap j = grind (arith, common_steps, out_of_bound)

  pub first_after : (a b k : ℕ) → a ≤ b → IsGap flags a b → IsFirst flags b k → IsFirst flags a k
  first_after a b k order gap first = grind (arith, common_steps, gap_join a b k gap first.none)

  pub last_before : (b k : ℕ) → IsLast flags b k → IsGap flags b (length flags)
      → IsLast flags (length flags) k
  last_before b k last gap = record {
    below = in_below flags k last.there;
    there = last.there;
    none = λ j low high. elim (cases_lt j b) [
      | inl l ↦ last.none j low l
      | inr past ↦
          gap j past high
    ];
  }

  -- ---- one alone

  pub one_first : (a j k : ℕ) → IsFirst flags a j → IsFirst flags a k → j ≡ k
  one_first a j k one two =
      elim (cases_lt j k) [
        | inl l ↦ absurd (both_ways _ (two.none j one.from l) one.there)
        | inr past ↦
            elim (cases_lt k j) [
              | inl l ↦ absurd (both_ways _ (one.none k two.from l) two.there)
              | inr other ↦ omega (arith, past, other)
            ]
      ]

  pub one_last : (b j k : ℕ) → IsLast flags b j → IsLast flags b k → j ≡ k
  one_last b j k one two =
      elim (cases_lt j k) [
        | inl l ↦ absurd (both_ways _ (one.none k l two.below) two.there)
        | inr past ↦
            elim (cases_lt k j) [
              | inl l ↦ absurd (both_ways _ (two.none j l one.below) one.there)
              | inr other ↦ omega (arith, past, other)
            ]
      ]

  pub first_or_gap : (a k : ℕ) → IsGap flags a (length flags) → IsFirst flags a k → ⊥
  first_or_gap a k gap first =
      both_ways _ (gap k first.from (in_below flags k first.there)) first.there
