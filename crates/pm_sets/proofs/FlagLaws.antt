-- A list of flags after one is set or taken away, and how many numbers of a range it then has.
use Rattle.std.proofs.Common.{◌≡◌, ◌≢◌, ℕ, suc, ◌+◌, ◌<◌, ◌≤◌, Bool, true, false, set, replicate}
use Rattle.std.proofs.lemmas.Grind.{common_steps}
use Rattle.std.proofs.Common.{List, [], length, sym, arith}
use Rattle.std.proofs.lemmas.List.{get_or_past, get_or-set_same, get_or-set_other, get_or-replicate}
use Rattle.std.proofs.lemmas.List.{length-replicate}
use Rattle.pm_base.specs.Counts.{set_of}
use Rattle.pm_sets.specs.Counted.{members_in}
use Rattle.pm_sets.proofs.Ranges.{none_passes, at_most_all, one_more}

pub in_below : (flags : List Bool) (x : ℕ) → set_of flags x ≡ true → x < length flags
in_below flags x there = grind (arith, common_steps, get_or_past)

pub out_of_bound : (flags : List Bool) (x : ℕ) → length flags ≤ x → set_of flags x ≡ false
out_of_bound flags x past = get_or_past flags x false past

pub none_in_empty : (n y : ℕ) → set_of (replicate n false) y ≡ false
none_in_empty n y = grind (arith, common_steps, get_or-replicate, length-replicate, out_of_bound)

pub no_members : (n a m : ℕ) → members_in (replicate n false) a m ≡ []
no_members n a m = none_passes (set_of (replicate n false)) a m (λ y low high. none_in_empty n y)

pub few_members : (flags : List Bool) (a m : ℕ) → length (members_in flags a m) ≤ m
few_members flags = at_most_all (set_of flags)

-- one flag is written
module _ (flags : List Bool) (n : ℕ) (n_lt : n < length flags) where
  pub set_other : (b : Bool) (y : ℕ) → y ≢ n → set_of (set flags n b) y ≡ set_of flags y
  set_other b y other = get_or-set_other flags n y b false other

  pub set_here : (b : Bool) → set_of (set flags n b) n ≡ b
  set_here b = get_or-set_same flags n b false n_lt

  pub more_in : (a m : ℕ) → set_of flags n ≡ false → a ≤ n → n < a + m
      → length (members_in (set flags n true) a m) ≡ suc (length (members_in flags a m))
  more_in a m clear low high =
      one_more (set_of flags) (set_of (set flags n true)) a m n low high clear (set_here true)
      (set_other true)

  pub less_in : (a m : ℕ) → set_of flags n ≡ true → a ≤ n → n < a + m
      → length (members_in flags a m) ≡ suc (length (members_in (set flags n false) a m))
  less_in a m was low high =
      one_more (set_of (set flags n false)) (set_of flags) a m n low high (set_here false) was
      (λ y other. sym (set_other false y other))
