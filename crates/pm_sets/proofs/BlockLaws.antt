-- What the flag of a block of 64 numbers says of its numbers, and what a write of one number does
-- to it.
use Rattle.std.proofs.Common.{◌≡◌, ◌≢◌, ℕ, ◌+◌, ◌*◌, ◌/◌, ◌<◌, ◌≤◌, ◌↔◌, Bool, true, false, List}
use Rattle.std.proofs.lemmas.Grind.{common_steps}
use Rattle.std.proofs.Common.{length, set, inl, inr, Option, None, Some, refl, sym, subst, ◌∙◌}
use Rattle.std.proofs.Common.{arith}
use Rattle.std.proofs.lemmas.Bool.{cases_eq, both_ways}
use Rattle.std.proofs.lemmas.List.{length-set}
use Rattle.std.specs.Option.{is_some, IfSome, IfNone}
use Rattle.pm_base.specs.Counts.{set_of}
use Rattle.pm_sets.specs.Sets.{IsEmptySet, IsGap, IsFirst, IsLast}
use Rattle.pm_sets.specs.Bits.{AreBlocks}
use Rattle.pm_sets.proofs.FlagLaws.{out_of_bound, set_here, set_other}
use Rattle.pm_sets.proofs.OrderLaws.{gap_join, first_after, last_before, no_member}

module _ (numbers blocks : List Bool) (are : AreBlocks numbers blocks) where
  clear_block : (b : ℕ) → set_of blocks b ≡ false → IsGap numbers (64 * b) (64 * b + 64)
  clear_block b clear j low high = grind (arith, common_steps, out_of_bound)

  -- blocks without numbers are a gap of numbers
  clear_blocks : (a b : ℕ) → IsGap blocks a b → IsGap numbers (64 * a) (64 * b)
  clear_blocks a b gap j low high =
      clear_block (j / 64) (gap (j / 64) (omega (arith, low)) (omega (arith, high))) j (omega arith)
      (omega arith)

  gap_to_end : (a : ℕ) → IsGap blocks a (length blocks) → IsGap numbers (64 * a) (length numbers)
  gap_to_end a gap j low high =
      clear_blocks a (length blocks) gap j low (omega (arith, are.long, high))

  -- no number in the rest of its block, and none in the blocks after it
  pub none_after : (at : ℕ) → IsGap numbers at (64 * (at / 64) + 64)
      → IsGap blocks (at / 64 + 1) (length blocks) → IsGap numbers at (length numbers)
  none_after at here later =
      gap_join numbers at (64 * (at / 64) + 64) (length numbers) here
      (λ j low high. gap_to_end (at / 64 + 1) later j (omega (arith, low)) high)

  pub first_in_blocks : (at block k : ℕ) → IsGap numbers at (64 * (at / 64) + 64)
      → IsFirst blocks (at / 64 + 1) block → IsFirst numbers (64 * block) k
      → IsFirst numbers at k
  first_in_blocks at block k here far first =
      let between : IsGap numbers (64 * (at / 64) + 64) (64 * block) =
      λ j low high. clear_blocks (at / 64 + 1) block far.none j (omega (arith, low)) high in
      first_after numbers at (64 * block) k (omega (arith, far.from))
      (gap_join numbers at _ _ here between) first

  pub none_at_all : IsEmptySet blocks → IsEmptySet numbers
  none_at_all none = no_member numbers (gap_to_end 0 (λ j low high. none j))

  pub last_in_blocks : (block k : ℕ) → IsLast blocks (length blocks) block
      → IsLast numbers (64 * block + 64) k → IsLast numbers (length numbers) k
  last_in_blocks block k far last =
      let after : IsGap blocks (block + 1) (length blocks) =
      λ b low high. far.none b (omega (arith, low)) high in
      last_before numbers (64 * block + 64) k last
      (λ j low high. gap_to_end (block + 1) after j (omega (arith, low)) high)

  -- a number is written, and the flag of its block alone
  module _ (n : ℕ) (n_lt : n < length numbers) (value : Bool) where
    abbrev after : List Bool
    after = set numbers n value

    abbrev IsGapOf : ℕ → Type 0
    IsGapOf b = IsGap after (64 * b) (64 * b + 64)

    other_block : (b : ℕ) → b ≢ n / 64 → b < length blocks → (set_of blocks b ≡ false) ↔ IsGapOf b
    other_block b other low =
        let same : (j : ℕ) → 64 * b ≤ j → j < 64 * b + 64 → set_of after j ≡ set_of numbers j =
        λ j from below. set_other numbers n n_lt value j
        (λ is. other (omega (arith, from, below, is))) in (
          λ clear j from below. same j from below ∙ clear_block b clear j from below,
          λ gap. (are.each b low).1 (λ j from below. sym (same j from below) ∙ gap j from below),
        )

    written : (flags : List Bool) → length flags ≡ length blocks
        → ((b : ℕ) → b ≢ n / 64 → set_of flags b ≡ set_of blocks b)
        → (set_of flags (n / 64) ≡ false) ↔ IsGapOf (n / 64) → AreBlocks after flags
    written flags long others here = record {
      few = omega (arith, are.few, length-set numbers n value);
      long = omega (arith, are.long, long, length-set numbers n value);
      each = λ b low.
          elim (cases_eq b (n / 64)) [
            | inl is ↦ subst (λ b. (set_of flags b ≡ false) ↔ IsGapOf b) (sym is) here
            | inr other ↦ subst (λ flag. (flag ≡ false) ↔ IsGapOf b) (sym (others b other))
                (other_block b other (omega (arith, low, long)))
          ];
    }

    flag_written : (flag : Bool) → (flag ≡ false) ↔ IsGapOf (n / 64)
        → AreBlocks after (set blocks (n / 64) flag)
    flag_written flag here =
        let there : n / 64 < length blocks = omega (arith, are.long, n_lt) in
        written (set blocks (n / 64) flag) (length-set blocks (n / 64) flag)
        (set_other blocks (n / 64) there flag)
        (subst (λ b. (b ≡ false) ↔ IsGapOf (n / 64)) (sym (set_here blocks (n / 64) there flag))
        here)

  module _ (n : ℕ) (n_lt : n < length numbers) where
    pub put_in : AreBlocks (set numbers n true) (set blocks (n / 64) true)
    put_in = flag_written n n_lt true true (
      λ clear. absurd (both_ways _ clear refl),
      λ gap. absurd
          (both_ways _ (gap n (omega arith) (omega arith)) (set_here numbers n n_lt true)),
    )

    -- a number is taken out, and its block has none left
    pub taken_last : (found : Option ℕ) → is_some found ≡ false
        → IfNone found (IsGap (set numbers n false) (64 * (n / 64)) (64 * (n / 64) + 64))
        → AreBlocks (set numbers n false) (set blocks (n / 64) false)
    taken_last None none gap = flag_written n n_lt false false (λ clear. gap, λ same. refl)
    taken_last (Some k) none gap = absurd (both_ways _ none refl)

    -- a number is taken out, and its block still has one
    pub taken_out : (found : Option ℕ) → is_some found ≡ true
        → IfSome found (IsLast (set numbers n false) (64 * (n / 64) + 64))
        → IfSome found (λ k. 64 * (n / 64) ≤ k) → AreBlocks (set numbers n false) blocks
    taken_out None some last from = absurd (both_ways _ refl some)
    taken_out (Some k) some last from =
        let apart : k ≢ n = grind (arith, common_steps, set_here) in
        let was : set_of numbers k ≡ true =
        sym (set_other numbers n n_lt false k apart) ∙ last.there in
        written n n_lt false blocks refl (λ b other. refl) (
          λ clear. absurd (both_ways _ (clear_block (n / 64) clear k from last.below) was),
          λ gap. absurd (both_ways _ (gap k from last.below) last.there),
        )
