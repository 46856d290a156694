-- Flags that stand in words: what a word tells of its numbers, and the flags after one word is
-- written.
use Rattle.std.proofs.Common.{◌≡◌, ◌≢◌, ℕ, ◌+◌, ◌*◌, ◌/◌, ◌%◌, ◌<◌, ◌≤◌, ◌==◌, Bool, true, false}
use Rattle.std.proofs.Common.{set, get_or, replicate, List, length, inl, inr, sym, ap, ◌∙◌, arith}
use Rattle.std.proofs.lemmas.Bool.{cases_lt, cases_eq}
use Rattle.std.proofs.lemmas.List.{get_or_past, get_or-set_same, get_or-set_other, get_or-replicate}
use Rattle.std.proofs.lemmas.List.{ext_get_or, length-set, length-replicate}
use Rattle.std.proofs.lemmas.Nat.Bits.{bit_at-zero}
use Rattle.std.proofs.lemmas.List.FromFn.{length-map-range_with_len, get_or-map-range_with_len}
use Rattle.std.proofs.lemmas.Grind.{get_or_default_zero, common_steps}
use Rattle.pm_base.specs.Counts.{set_of}
use Rattle.pm_sets.specs.Sets.{IsGap, IsFirst, IsLast}
use Rattle.pm_sets.specs.Bits.{has_bit, IsBitGap, flag_in, flags_in, AreWords}
use Rattle.pm_sets.proofs.FlagLaws.{none_in_empty, out_of_bound, set_here, set_other}

length_flags : (words : List ℕ) (bound : ℕ) → length (flags_in words bound) ≡ bound
length_flags words bound = length-map-range_with_len (flag_in words) 0 bound

flag_below : (words : List ℕ) (bound j : ℕ) → j < bound
    → set_of (flags_in words bound) j ≡ flag_in words j
flag_below words bound j low =
    get_or-map-range_with_len (flag_in words) 0 bound j j false low (omega arith)

flag_at : (words : List ℕ) (bound : ℕ) → AreWords bound words → (j : ℕ)
    → set_of (flags_in words bound) j ≡ flag_in words j
flag_at words bound are j =
    elim (cases_lt j bound) [
      | inl low ↦ flag_below words bound j low
      | inr past ↦
          out_of_bound (flags_in words bound) j (omega (arith, length_flags words bound, past))
          ∙ sym (are.none j past)
    ]

flag_of_word : (words : List ℕ) (w j : ℕ) → j / 64 ≡ w
    → flag_in words j ≡ has_bit (get_or words w 0) (j % 64)
flag_of_word words w j is = ap (λ v. has_bit (get_or words v 0) (j % 64)) is

-- ---- words with no bit set

no_bit : (p : ℕ) → has_bit 0 p ≡ false
no_bit p = ap (λ v. v == 1) (bit_at-zero p)

no_flag : (n j : ℕ) → flag_in (replicate n 0) j ≡ false
no_flag n j = grind (arith, common_steps, get_or-replicate, get_or_past, length-replicate, no_bit)

pub flags_new : (bound n : ℕ) → flags_in (replicate n 0) bound ≡ replicate bound false
flags_new bound n =
    let now = length_flags (replicate n 0) bound in
    let long = now ∙ sym (length-replicate bound false) in
    ext_get_or false (flags_in (replicate n 0) bound) (replicate bound false) long (λ j low.
    flag_below (replicate n 0) bound j (omega (arith, low, now))
    ∙ (no_flag n j ∙ sym (none_in_empty bound j)))

-- ---- the flags that contracts see
module _ (words : List ℕ) (bound : ℕ) (flags : List Bool) (are : AreWords bound words)
    (seen : flags_in words bound ≡ flags) where
  pub length_seen : length flags ≡ bound
  length_seen = ap length (sym seen) ∙ length_flags words bound

  flag_seen : (j : ℕ) → set_of flags j ≡ flag_in words j
  flag_seen j = ap (λ fs. set_of fs j) (sym seen) ∙ flag_at words bound are j

  pub word_within : (w : ℕ) → w ≤ length flags / 64 → w < length words
  word_within w within = omega (arith, length_seen, are.blocks, within)

-- ---- one word is read
module _ (words : List ℕ) (bound : ℕ) (flags : List Bool) (are : AreWords bound words)
    (seen : flags_in words bound ≡ flags)
    (w word : ℕ) (within : w ≤ length flags / 64) (read : word ≡ get_or words w word) where
  word_read : word ≡ get_or words w 0
  word_read = read
      ∙ get_or_default_zero words w word (word_within words bound flags are seen w within)

  pub flag_read : (j : ℕ) → j / 64 ≡ w → set_of flags j ≡ has_bit word (j % 64)
  flag_read j is =
      flag_seen words bound flags are seen j
      ∙ (flag_of_word words w j is ∙ ap (λ v. has_bit v (j % 64)) (sym word_read))

  pub gap_in_word : (a b : ℕ) → b ≤ 64 → IsBitGap word a b → IsGap flags (64 * w + a) (64 * w + b)
  gap_in_word a b most gap j low high =
      let is : j / 64 ≡ w = omega (arith, most, low, high) in
      flag_read j is ∙ gap (j % 64) (omega (arith, is, low)) (omega (arith, is, high))

  there_in_word : (p : ℕ) → p < 64 → has_bit word p ≡ true → set_of flags (64 * w + p) ≡ true
  there_in_word p low there = grind (arith, common_steps, flag_read)

  pub first_of_word : (at p : ℕ) → w ≡ at / 64 → p < 64 → at % 64 ≤ p → has_bit word p ≡ true
      → IsBitGap word (at % 64) p → IsFirst flags at (64 * w + p)
  first_of_word at p is low after there first = record {
    from = omega (arith, is, after);
    there = there_in_word p low there;
    none = λ j after_at below. gap_in_word (at % 64) p (omega (arith, low)) first j
        (omega (arith, is, after_at)) below;
  }

  pub last_of_word : (p : ℕ) → p < 64 → has_bit word p ≡ true
      → ((j : ℕ) → p < j → j < 64 → has_bit word j ≡ false)
      → IsLast flags (64 * w + 64) (64 * w + p)
  last_of_word p low there last = record {
    below = omega (arith, low);
    there = there_in_word p low there;
    none = λ j after below. gap_in_word (p + 1) 64 (omega arith)
        (λ k from to. last k (omega (arith, from)) to) j (omega (arith, after)) below;
  }

-- ---- one word is written, in which one bit differs
module _ (words : List ℕ) (bound : ℕ) (flags : List Bool) (are : AreWords bound words)
    (seen : flags_in words bound ≡ flags)
    (n was word : ℕ) (b : Bool) (n_lt : n < length flags) (read : was ≡ get_or words (n / 64) was)
    (here : has_bit word (n % 64) ≡ b)
    (others : (j : ℕ) → j < 64 → j ≢ n % 64 → has_bit word j ≡ has_bit was j) where
  in_words : n / 64 < length words
  in_words = word_within words bound flags are seen (n / 64) (omega (arith, n_lt))

  written_here : flag_in (set words (n / 64) word) n ≡ b
  written_here = ap (λ w. has_bit w (n % 64)) (get_or-set_same words (n / 64) word 0 in_words)
      ∙ here

  written_beside : (j : ℕ) → j ≢ n → j / 64 ≡ n / 64 → flag_in (set words (n / 64) word) j
      ≡ flag_in words j
  written_beside j other same =
      let place : j % 64 ≢ n % 64 = λ e. other (omega (arith, e, same)) in
      let now = flag_of_word (set words (n / 64) word) (n / 64) j same in
      let wrote = ap (λ w. has_bit w (j % 64)) (get_or-set_same words (n / 64) word 0 in_words) in
      let before =
      ap (λ w. has_bit w (j % 64)) (read ∙ get_or_default_zero words (n / 64) was in_words) in
      now ∙ (wrote
      ∙ (others (j % 64) (omega arith) place
      ∙ (before ∙ sym (flag_of_word words (n / 64) j same))))

  written_other : (j : ℕ) → j ≢ n → flag_in (set words (n / 64) word) j ≡ flag_in words j
  written_other j other =
      elim (cases_eq (j / 64) (n / 64)) [
        | inl same ↦ written_beside j other same
        | inr apart ↦
            ap (λ w. has_bit w (j % 64)) (get_or-set_other words (n / 64) (j / 64) word 0 apart)
      ]

  pub words_after : AreWords bound (set words (n / 64) word)
  words_after = record {
    few = are.few;
    blocks = length-set words (n / 64) word ∙ are.blocks;
    none = λ j past. written_other j
        (omega (arith, past, n_lt, length_seen words bound flags are seen)) ∙ are.none j past;
  }

  written_at : (j : ℕ) → flag_in (set words (n / 64) word) j ≡ set_of (set flags n b) j
  written_at j =
      elim (cases_eq j n) [
        | inl is ↦ ap (flag_in (set words (n / 64) word)) is
            ∙ (written_here
            ∙ (sym (set_here flags n n_lt b) ∙ ap (set_of (set flags n b)) (sym is)))
        | inr other ↦ written_other j other
            ∙ (sym (flag_seen words bound flags are seen j)
            ∙ sym (set_other flags n n_lt b j other))
      ]

  pub flags_after : flags_in (set words (n / 64) word) bound ≡ set flags n b
  flags_after =
      let long = length_flags (set words (n / 64) word) bound
      ∙ sym (length-set flags n b ∙ length_seen words bound flags are seen) in
      let each = λ (j : ℕ) (low : j < length (flags_in (set words (n / 64) word) bound)). flag_at
      (set words (n / 64) word) bound words_after j ∙ written_at j in
      ext_get_or false (flags_in (set words (n / 64) word) bound) (set flags n b) long each
