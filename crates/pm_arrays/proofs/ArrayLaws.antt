-- What is stored for the numbers below n that pass a test, one number on.
use Rattle.std.proofs.Common.{◌≡◌, ℕ, suc, ◌+◌, ◌*◌, ◌<◌, Bool, true, false, inl, inr, get_or, set}
use Rattle.std.proofs.Common.{List, [], ◌∷◌, ◌++◌, length, take, filter, sym, ap, ◌∙◌, arith}
use Rattle.std.specs.List.{flat_map}
use Rattle.std.proofs.lemmas.Grind.{flat_map-append}
use Rattle.std.proofs.lemmas.Bool.{cases_eq}
use Rattle.std.proofs.lemmas.List.{append-nil, take_all, get_or-set_same, get_or-set_other}
use Rattle.pm_base.specs.Counts.{count, numbers_below}
use Rattle.pm_base.proofs.Counts.{count-true, count-false}
use Rattle.pm_front.proofs.Counting.{passing_next, passing_same}

-- The number passes: one more,
pub count_on : (p : ℕ → Bool) (n : ℕ) → p n ≡ true → count p (n + 1) ≡ count p n + 1
count_on p n pass = let e : n + 1 ≡ suc n =
    omega arith in rw e (let t = count-true p n pass in omega (arith, t))

pub numbers_on : (p : ℕ → Bool) (n c : ℕ) (old new : List ℕ) → p n ≡ true → c ≡ count p n
    → take c old ≡ filter p (numbers_below n) → take (c + 1) new ≡ take c old ++ n ∷ []
    → take (c + 1) new ≡ filter p (numbers_below (n + 1))
numbers_on p n c old new pass is so_far stored =
    stored ∙ ap (λ (xs : List ℕ). xs ++ n ∷ []) so_far ∙ sym (passing_next p n pass)

pub threes_on : {X : Type 0} (p : ℕ → Bool) (f : ℕ → List X) (n c d : ℕ) (old new piece : List X)
    → p n ≡ true → piece ≡ f n
    → take (3 * c) old ≡ flat_map f (filter p (numbers_below n))
    → take (3 * d) new ≡ take (3 * c) old ++ piece
    → take (3 * d) new ≡ flat_map f (filter p (numbers_below (n + 1)))
threes_on p f n c d old new piece pass is so_far stored =
    let one : flat_map f (n ∷ []) ≡ f n = append-nil (f n) in
    stored ∙ ap (λ xs. xs ++ piece) so_far
    ∙ ap (λ xs. flat_map f (filter p (numbers_below n)) ++ xs) (is ∙ sym one)
    ∙ sym (flat_map-append f (filter p (numbers_below n)) (n ∷ []))
    ∙ sym (ap (flat_map f) (passing_next p n pass))

-- or it doesn't.
pub count_stays : (p : ℕ → Bool) (n : ℕ) → p n ≡ false → count p (n + 1) ≡ count p n
count_stays p n fail = let e : n + 1 ≡ suc n = omega arith in rw e (count-false p n fail)

pub numbers_stay : {X : Type 0} (p : ℕ → Bool) (f : List ℕ → List X) (n : ℕ) (so_far : List X)
    → p n ≡ false
    → so_far ≡ f (filter p (numbers_below n)) → so_far ≡ f (filter p (numbers_below (n + 1)))
numbers_stay p f n so_far fail is = is ∙ sym (ap f (passing_same p n fail))

-- The array is full.
pub numbers_full : {X : Type 0} (c : ℕ) (array whole : List X) → length array ≡ c
    → take c array ≡ whole → array ≡ whole
numbers_full c array whole len is = sym (take_all c array (omega (arith, len))) ∙ is

-- The table has the positions of those below n that pass.
pub table_on : (p : ℕ → Bool) (n c : ℕ) (table : List ℕ) → n < length table → c ≡ count p n
    → ((v : ℕ) → v < n → p v ≡ true → get_or table v 0 ≡ count p v)
    → (v : ℕ) → v < n + 1 → p v ≡ true → get_or (set table n c) v 0 ≡ count p v
table_on p n c table l is told v below pass =
    elim (cases_eq v n) [
      | inl same ↦ rw same (get_or-set_same table n c 0 l ∙ is)
      | inr other ↦ get_or-set_other table n v c 0 other ∙ told v (omega (arith, other)) pass
    ]

pub table_stays : (p : ℕ → Bool) (n : ℕ) (table : List ℕ) → p n ≡ false
    → ((v : ℕ) → v < n → p v ≡ true → get_or table v 0 ≡ count p v)
    → (v : ℕ) → v < n + 1 → p v ≡ true → get_or table v 0 ≡ count p v
table_stays p n table fail told v below pass =
    elim (cases_eq v n) [
      | inl same ↦ absurd (clash (sym fail ∙ ap p (sym same) ∙ pass))
      | inr other ↦ told v (omega (arith, other)) pass
    ]
  where
    clash : false ≡ true → ⊥
    clash e = absurd cc
