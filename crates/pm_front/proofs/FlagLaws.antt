-- The members of a set of numbers as an ascending list: once one is put in or taken out, and what a
-- search finds.
use Rattle.std.proofs.Common.{◌≡◌, ℕ, zero, suc, ◌+◌, ◌-◌, ◌<◌, ◌≤◌, Bool, true, false, ◌||◌, eqb}
use Rattle.std.proofs.lemmas.Grind.{common_steps}
use Rattle.std.proofs.Common.{set, replicate, Option, Some, None, List, [], ◌∷◌, length, inl, inr}
use Rattle.std.proofs.Common.{sym, ap, ◌∙◌, arith}
use Rattle.std.specs.Prelude.{IfSome, IfNone}
use Rattle.std.specs.List.{filter, range_with_len}
use Rattle.std.proofs.lemmas.Bool.{cases_eq, eq-eqb, ne_eqb}
use Rattle.std.proofs.lemmas.Bool.{or_left}
use Rattle.std.proofs.lemmas.List.{length-set, length-replicate}
use Rattle.pm_links.specs.Lists.{has, first_of, after, list_without, IsOnce}
use Rattle.pm_links.proofs.Without.{has-without, has-without_same}
use Rattle.pm_links.specs.declared.links.TheConstants.{LIMIT}
use Rattle.pm_sets.specs.Sets.{IsGap, IsFirst}
use Rattle.pm_base.specs.Counts.{set_of, numbers_below}
use Rattle.pm_sets.specs.Counted.{members_in}
use Rattle.pm_sets.proofs.Ranges.{none_passes}
use Rattle.pm_sets.proofs.FlagLaws.{in_below, no_members, set_other, set_here, more_in, less_in}
use Rattle.pm_front.specs.Members.{Members, AreSameNumbers, AreMembers, members_of}
use Rattle.pm_front.specs.Shown.{NonePasses, IsLeastFrom}
use Rattle.pm_front.proofs.ListLaws.{has_filter-parts, has_filter-from, once-filter, once-range}
use Rattle.pm_front.proofs.ListLaws.{number-member}

-- ---- in a range

pub first_passes : (p : ℕ → Bool) (a n x : ℕ) → a ≤ x → x < a + n → p x ≡ true
    → ((y : ℕ) → a ≤ y → y < x → p y ≡ false) →
    first_of (filter p (range_with_len a n)) ≡ Some x
first_passes p a zero x low high pass none = absurd (omega arith)
first_passes p a (suc n) x low high pass none =
    grind (arith, common_steps, first_passes p (a + 1) n x)

pub after_passes : (p : ℕ → Bool) (a n x : ℕ) → a ≤ x → x < a + n → p x ≡ true →
    after x (filter p (range_with_len a n)) ≡ filter p (range_with_len (x + 1) (a + n - (x + 1)))
after_passes p a zero x low high pass = absurd (omega arith)
after_passes p a (suc n) x low high pass =
    grind (arith, common_steps, eq-eqb, ne_eqb, after_passes p (a + 1) n x)

-- ---- the members of a set

pub has-flagged : (flags : List Bool) (x : ℕ) → has (members_of flags) x ≡ set_of flags x
has-flagged flags x =
    grind (arith, common_steps, has_filter-from, has_filter-parts, in_below, number-member)

pub once-flagged : (flags : List Bool) → IsOnce (members_of flags)
once-flagged flags =
    once-filter (set_of flags) (numbers_below (length flags)) (once-range 0 (length flags))

-- a set with one more, or one less
module _ (flags : List Bool) (n : ℕ) (n_lt : n < length flags) where
  pub put_in : AreSameNumbers (members_of (set flags n true)) (n ∷ members_of flags)
  put_in = record {
    same = λ x.
        has-flagged (set flags n true) x ∙ elim (cases_eq n x) [
          | inl is ↦ ap (set_of (set flags n true)) (sym is) ∙ set_here flags n n_lt true
              ∙ sym (or_left (eqb n x) (has (members_of flags) x) (eq-eqb n x is))
          | inr other ↦
              set_other flags n n_lt true x (λ is. other (sym is)) ∙ sym (has-flagged flags x)
              ∙ sym (ap (λ b. b || has (members_of flags) x) (ne_eqb n x other))
        ];
    once = once-flagged (set flags n true);
  }

  pub taken_out : AreSameNumbers (members_of (set flags n false))
      (list_without n (members_of flags))
  taken_out =
      grind (
        arith,
        common_steps,
        has-flagged,
        has-without,
        has-without_same,
        once-flagged,
        set_here,
        set_other,
      )

  -- ---- how many they are

  pub members_more : (count : ℕ) → AreMembers flags count → set_of flags n ≡ false
      → AreMembers (set flags n true) (count + 1)
  members_more count was clear = grind (arith, common_steps, length-set, more_in)

  pub members_less : (count : ℕ) → AreMembers flags count → set_of flags n ≡ true
      → AreMembers (set flags n false) (count - 1)
  members_less count was there = grind (arith, common_steps, length-set, less_in)

-- ---- what a search finds

pub first_found : (flags : List Bool) (a n : ℕ) → a + n ≡ length flags → (found : Option ℕ)
    → IfSome found (IsFirst flags a) →
    IfNone found (IsGap flags a (length flags)) → found ≡ first_of (members_in flags a n)
first_found flags a n all None some none =
    sym (ap first_of
    (none_passes (set_of flags) a n (λ y low high. none y low (omega (arith, all, high)))))
first_found flags a n all (Some k) first none =
    let below = in_below flags k first.there in
    sym (first_passes (set_of flags) a n k first.from (omega (arith, below, all)) first.there
    first.none)

pub least_found : (flags : List Bool) (a : ℕ) (found : Option ℕ) → IfSome found (IsFirst flags a)
    → IfSome found (IsLeastFrom (has (members_of flags)) a)
least_found flags a None found = tt
least_found flags a (Some k) found =
    grind (arith, common_steps, has-flagged flags k, has-flagged flags)

pub none_found : (flags : List Bool) (a b : ℕ) (found : Option ℕ) → IfNone found (IsGap flags a b)
    → IfNone found (NonePasses (has (members_of flags)) a b)
none_found flags a b None none = λ x low high. has-flagged flags x ∙ none x low high
none_found flags a b (Some k) none = tt

pub found_below : (flags : List Bool) (a : ℕ) (found : Option ℕ) → IfSome found (IsFirst flags a)
    → IfSome found (λ k. k < length flags)
found_below flags a None found = tt
found_below flags a (Some k) found = in_below flags k found.there

pub after_member : (flags : List Bool) (n : ℕ) → set_of flags n ≡ true
    → after n (members_of flags) ≡ members_in flags (n + 1) (length flags - (n + 1))
after_member flags n there = grind (arith, common_steps, after_passes, in_below)

-- ---- none

pub none_yet : (flags : List Bool) (n : ℕ) → n ≤ LIMIT → flags ≡ replicate n false
    → AreMembers flags 0
none_yet flags n few is = grind (arith, common_steps, length-replicate, no_members)

pub none_yet_value : (flags : List Bool) (n : ℕ) → flags ≡ replicate n false
    → (let m : Members = record { bound = length flags; list = members_of flags } in m)
    ≡ record { bound = n; list = [] }
none_yet_value flags n is = grind (arith, common_steps, length-replicate, no_members)
