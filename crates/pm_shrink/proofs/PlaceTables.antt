-- A table of places with room for later ones: what is read of its first entries.
use Rattle.std.specs.Prelude.{is_some, is_none}
use Rattle.std.proofs.Common.{◌≡◌, Bool, true, false, not, Some, ℕ, ◌<◌, ◌≤◌, List, length, get_or}
use Rattle.std.proofs.Common.{take, Option, None, inl, inr, sym, ◌∙◌, arith}
use Rattle.std.proofs.lemmas.List.{get_or-take, get_or_past, length-take-le, length-take}
use Rattle.std.proofs.lemmas.Bool.{cases_lt, false≢true}
use Rattle.pm_base.specs.Place.{Place}

length_taken : (xs : List (Option Place)) (n : ℕ) → length (take n xs) ≤ n
length_taken xs n =
    elim (cases_lt (length xs) n) [
      | inl l ↦ omega (arith, taken_short xs n l)
      | inr g ↦ omega (arith, length-take-le n xs g)
    ]
  where
    taken_short : (xs : List (Option Place)) (n : ℕ) → length xs < n → length (take n xs) ≤ n
    taken_short xs n l = omega (arith, length-take n xs)

pub place_read : (places : List (Option Place)) (next v : ℕ)
    → ((w : ℕ) → next ≤ w → get_or places w None ≡ None)
    → get_or (take next places) v None ≡ get_or places v None
place_read places next v fresh =
    elim (cases_lt v next) [
      | inl l ↦ get_or-take next places v None l
      | inr g ↦ get_or_past (take next places) v None (omega (arith, length_taken places next))
          ∙ sym (fresh v g)
    ]

pub none_is : {A : Type 0} (r : Option A) (b : Bool) → is_some r ≡ not b → b ≡ is_none r
none_is None true e = λ i. true
none_is None false e = absurd (false≢true e)
none_is (Some x) true e = absurd (false≢true (sym e))
none_is (Some x) false e = λ i. false

pub both_ways_not : (b : Bool) → b ≡ true → not b ≡ true → ⊥
both_ways_not true t f = false≢true f
both_ways_not false t f = false≢true t

pub no_from : (b : Bool) → (b ≡ true → ⊥) → not b ≡ true
no_from true never = absurd (never (λ i. true))
no_from false never = λ i. true
