-- Positions in lists of numbers, and the intervals of roots.
use Rattle.std.proofs.Common.{zero, suc, ◌≡◌, ◌≢◌, ℕ, ◌+◌, ◌<◌, ◌≤◌, Bool, true, false, List, []}
use Rattle.std.proofs.lemmas.Grind.{common_steps}
use Rattle.std.proofs.Common.{◌∷◌, map, sum, length, get_or, refl, sym, ap, ◌∙◌}
use Rattle.std.proofs.Common.{arith}
use Rattle.std.proofs.lemmas.Bool.{false≢true, eq-eqb, ne_eqb, cond-true}
use Rattle.std.proofs.lemmas.Bool.{cond-false}
use Rattle.pm_forest.specs.Forest.{Interval, root_interval}
use Rattle.pm_forest.proofs.OwnerLaws.{sum-cons}
use Rattle.pm_number.specs.Numbering.{place_in, sum_before, picked}

place-here : (v x : ℕ) (xs : List ℕ) → v ≡ x → place_in v (x ∷ xs) ≡ 0
place-here v x xs is = cond-true _ 0 (suc (place_in v xs)) (eq-eqb v x is)

place-there : (v x : ℕ) (xs : List ℕ) → v ≢ x → place_in v (x ∷ xs) ≡ suc (place_in v xs)
place-there v x xs n = cond-false _ 0 (suc (place_in v xs)) (ne_eqb v x n)

-- what stands at the position of v is v
pub at_place : (v d : ℕ) (xs : List ℕ) → place_in v xs < length xs → get_or xs (place_in v xs) d ≡ v
at_place v d [] l = absurd (omega arith)
at_place v d (x ∷ xs) l =
    grind (arith, common_steps, get_or, place-here, place-there, at_place v d xs)

pub place-once : (v w : ℕ) (xs : List ℕ) → place_in v xs < length xs → place_in w xs < length xs
    → place_in v xs ≡ place_in w xs → v ≡ w
place-once v w xs l m is = sym (at_place v 0 xs l) ∙ ap (λ n. get_or xs n 0) is ∙ at_place w 0 xs m

picked-yes : (p : ℕ → Bool) (a n : ℕ) → p a ≡ true → picked p a (suc n) ≡ a ∷ picked p (a + 1) n
picked-yes p a n e = cond-true _ (a ∷ picked p (a + 1) n) (picked p (a + 1) n) e

picked-no : (p : ℕ → Bool) (a n : ℕ) → p a ≡ false → picked p a (suc n) ≡ picked p (a + 1) n
picked-no p a n e = cond-false _ (a ∷ picked p (a + 1) n) (picked p (a + 1) n) e

-- what passes is picked
pub picked-has : (p : ℕ → Bool) (a n v : ℕ) → a ≤ v → v < a + n → p v ≡ true
    → place_in v (picked p a n) < length (picked p a n)
picked-has p a zero v b c e = absurd (omega arith)
picked-has p a (suc n) v b c e =
    grind (
      arith,
      common_steps,
      false≢true,
      picked-no,
      picked-yes,
      place-here,
      place-there,
      picked-has p (a + 1) n v,
    )

-- and what is picked passes, and stands at its position
abbrev pub Picked : (ℕ → Bool) → ℕ → ℕ → ℕ → List ℕ → Type 0
Picked p a n j xs = (p (get_or xs j 0) ≡ true) × (a ≤ get_or xs j 0) × (get_or xs j 0 < a + n)
    × (place_in (get_or xs j 0) xs ≡ j)

at_head : (p : ℕ → Bool) (a n : ℕ) → p a ≡ true
    → ((j : ℕ) → j < length (picked p (a + 1) n) → Picked p (a + 1) n j (picked p (a + 1) n))
    → (j : ℕ) → j < length (a ∷ picked p (a + 1) n) → Picked p a (suc n) j (a ∷ picked p (a + 1) n)
at_head p a n t rest zero m =
    (t, omega arith, omega arith, place-here a a (picked p (a + 1) n) refl)
at_head p a n t rest (suc j) m = grind (arith, common_steps, get_or, place-there)

pub picked-at : (p : ℕ → Bool) (a n j : ℕ) → j < length (picked p a n)
    → Picked p a n j (picked p a n)
picked-at p a zero j l = absurd (omega arith)
picked-at p a (suc n) j l =
    grind (arith, common_steps, at_head, picked-no, picked-yes, picked-at p (a + 1) n)

-- Roots' intervals

pub interval-same : (a b c d : ℕ) → a ≡ c → b ≡ d
    → ◌≡◌ {A = Interval} (record { from = a; until = b }) (record { from = c; until = d })
interval-same a b c d p q = grind (arith, common_steps)

pub root-interval : (w : ℕ → ℕ) (xs : List ℕ) (s v : ℕ) → place_in v xs < length xs
    → root_interval (map w xs) s (place_in v xs) ≡ record {
      from = s + sum_before w v xs;
      until = s + sum_before w v xs + w v;
    }
root-interval w [] s v l = absurd (omega arith)
root-interval w (x ∷ xs) s v l =
    grind (
      arith,
      common_steps,
      cond-false,
      cond-true,
      eq-eqb,
      interval-same,
      ne_eqb,
      place-here,
      place-there,
      root-interval w xs (s + w x) v,
    )

pub before-within : (w : ℕ → ℕ) (xs : List ℕ) (v : ℕ) → place_in v xs < length xs
    → sum_before w v xs + w v ≤ sum (map w xs)
before-within w [] v l = absurd (omega arith)
before-within w (x ∷ xs) v l =
    grind (
      arith,
      common_steps,
      cond-false,
      cond-true,
      eq-eqb,
      ne_eqb,
      place-there,
      sum-cons,
      before-within w xs v,
    )

pub map_map : {A : Type 0} (f : A → ℕ) (g : ℕ → A) (xs : List ℕ)
    → map f (map g xs) ≡ map (λ x. f (g x)) xs
map_map f g [] = refl
map_map f g (x ∷ xs) = ap (λ ys. f (g x) ∷ ys) (map_map f g xs)
