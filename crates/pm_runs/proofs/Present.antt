-- Counting what is present in a list of options, and lists that lose one entry or two.
use Rattle.std.proofs.Common.{◌≡◌, ◌≢◌, ℕ, zero, suc, ◌+◌, true, false, cond, Option, Some, None}
use Rattle.std.proofs.lemmas.Grind.{common_steps}
use Rattle.std.proofs.Common.{List, [], ◌∷◌, ◌++◌, length, map, ◌⊎◌, inl, inr, refl, sym, ap, ◌∙◌}
use Rattle.std.proofs.Common.{arith}
use Rattle.std.specs.Prelude.{is_some, option_map, slice_index_or, slice_set}
use Rattle.std.specs.List.{count_by}
use Rattle.std.proofs.lemmas.Bool.{cases_eq, both_ways}
use Rattle.std.proofs.lemmas.List.{length-set, get_or-set_same, get_or-set_other}
use Rattle.std.proofs.lemmas.Option.{none-some, same_Some}
use Rattle.std.proofs.Math.ListN.{get_or-eq_default}
use Rattle.std.proofs.lemmas.List.Sums.{sum_by-append}
use Rattle.pm_base.specs.Counts.{one_if}

-- How many are present.
abbrev pub present : {X : Type 0} → List (Option X) → ℕ
present xs = count_by is_some xs

pub present-append : {X : Type 0} (xs ys : List (Option X))
    → present (xs ++ ys) ≡ present xs + present ys
present-append xs ys = sum_by-append (λ x. cond (is_some x) 1 0) xs ys

pub present-some : {X : Type 0} (x : X) (xs : List (Option X))
    → present (Some x ∷ xs) ≡ suc (present xs)
present-some x xs = let e = present-append (Some x ∷ []) xs in omega arith

pub present-none : {X : Type 0} (xs : List (Option X)) → present (None ∷ xs) ≡ present xs
present-none xs = let e = present-append (None ∷ []) xs in omega arith

pub option_is : {X : Type 0} (x : Option X) → (x ≡ None) ⊎ ((y : X) × (x ≡ Some y))
option_is None = inl refl
option_is (Some y) = inr (y, refl)

-- The same are present, so as many.
pub present-same : {X Y : Type 0} (xs : List (Option X)) (ys : List (Option Y))
    → length xs ≡ length ys
    → ((i : ℕ) → is_some (slice_index_or ys i None) ≡ is_some (slice_index_or xs i None))
    → present ys ≡ present xs
present-same [] [] n same = refl
present-same [] (y ∷ ys) n same = absurd (omega arith)
present-same (x ∷ xs) [] n same = absurd (omega arith)
present-same (None ∷ xs) (None ∷ ys) n same =
    present-none ys ∙ present-same xs ys (omega arith) (λ i. same (suc i)) ∙ sym (present-none xs)
present-same (Some x ∷ xs) (Some y ∷ ys) n same =
    present-some y ys ∙ ap suc (present-same xs ys (omega arith) (λ i. same (suc i)))
    ∙ sym (present-some x xs)
present-same (None ∷ xs) (Some y ∷ ys) n same = absurd (both_ways true (same 0) refl)
present-same (Some x ∷ xs) (None ∷ ys) n same = absurd (both_ways false refl (same 0))

pub present-set : {X : Type 0} (xs : List (Option X)) (i : ℕ) → is_some (slice_index_or xs i None)
    ≡ true → suc (present (slice_set xs i None)) ≡ present xs
present-set [] i is = absurd (both_ways false refl is)
present-set (None ∷ xs) zero is = absurd (both_ways false refl is)
present-set (Some x ∷ xs) zero is = ap suc (present-none xs) ∙ sym (present-some x xs)
present-set (None ∷ xs) (suc i) is =
    ap suc (present-none (slice_set xs i None)) ∙ present-set xs i is ∙ sym (present-none xs)
present-set (Some x ∷ xs) (suc i) is =
    ap suc (present-some x (slice_set xs i None)) ∙ ap suc (present-set xs i is)
    ∙ sym (present-some x xs)

-- One entry goes, where the test says so.
abbrev pub without_if : {X : Type 0} → Option ℕ → List (Option X) → List (Option X)
without_if None xs = xs
without_if (Some i) xs = slice_set xs i None

pub length-without_if : {X : Type 0} (o : Option ℕ) (xs : List (Option X))
    → length (without_if o xs) ≡ length xs
length-without_if None xs = refl
length-without_if (Some i) xs = length-set xs i None

pub present-without_if : {X : Type 0} (o : Option ℕ) (xs : List (Option X))
    → ((i : ℕ) → o ≡ Some i → is_some (slice_index_or xs i None) ≡ true)
    → present (without_if o xs) + one_if (is_some o) ≡ present xs
present-without_if None xs there = omega arith
present-without_if (Some i) xs there = let e = present-set xs i (there i refl) in omega arith

pub without_if-same : {X : Type 0} (o : Option ℕ) (xs : List (Option X)) (i : ℕ) → o ≡ Some i
    → slice_index_or (without_if o xs) i None ≡ None
without_if-same None xs i is = absurd (none-some i is)
without_if-same (Some j) xs i is =
    grind (arith, common_steps, get_or-eq_default, get_or-set_same, length-set, same_Some)

pub without_if-other : {X : Type 0} (o : Option ℕ) (xs : List (Option X)) (i : ℕ) → o ≢ Some i
    → slice_index_or (without_if o xs) i None ≡ slice_index_or xs i None
without_if-other None xs i n = refl
without_if-other (Some j) xs i n = get_or-set_other xs j i None None (λ is. n (ap Some (sym is)))

pub option_eq? : (o : Option ℕ) (i : ℕ) → (o ≡ Some i) ⊎ (o ≢ Some i)
option_eq? None i = inr (λ is. none-some i is)
option_eq? (Some j) i =
    elim (cases_eq j i) [ inl is ↦ inl (ap Some is) | inr n ↦ inr (λ is. n (same_Some j i is)) ]

pub is_some-map : {X Y : Type 0} (f : X → Y) (o : Option X) → is_some (option_map f o) ≡ is_some o
is_some-map f None = refl
is_some-map f (Some x) = refl

pub map-some : (f : ℕ → ℕ) (o : Option ℕ) (i : ℕ) → option_map f o ≡ Some i → (j : ℕ) × (o ≡ Some j)
    × (f j ≡ i)
map-some f None i is = absurd (none-some i is)
map-some f (Some j) i is = (j, refl, same_Some (f j) i is)

pub all_present : {X : Type 0} (xs : List X) → present (map Some xs) ≡ length xs
all_present [] = refl
all_present (x ∷ xs) = let one = present-some x (map Some xs) in let rest =
    all_present xs in omega arith
