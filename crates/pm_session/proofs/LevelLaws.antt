-- The level of detail, one record or node on.
use Rattle.std.proofs.Common.{◌≡◌, ℕ, suc, ◌+◌, Bool, true, false, List, [], ◌∷◌, ◌++◌, map, filter}
use Rattle.std.proofs.Common.{max, refl, sym, ap, ◌∙◌, subst, arith}
use Rattle.pm_base.specs.Counts.{numbers_below, count, one_if}
use Rattle.pm_bounds.specs.Bounds.{greatest}
use Rattle.pm_front.proofs.Counting.{passing_next, passing_same}

pub count_next : (p : ℕ → Bool) (k n : ℕ) → p k ≡ true → n ≡ count p k → n + 1 ≡ count p (k + 1)
unfolding count
count_next p k n pass is =
    let one : count p (suc k) ≡ one_if (p k) + count p k = refl in
    let next : suc k ≡ k + 1 = omega arith in
    subst (λ (j : ℕ). n + 1 ≡ count p j) next (omega (arith, one, ap one_if pass, is))

pub count_same : (p : ℕ → Bool) (k n : ℕ) → p k ≡ false → n ≡ count p k → n ≡ count p (k + 1)
unfolding count
count_same p k n fail is =
    let none : count p (suc k) ≡ one_if (p k) + count p k = refl in
    let next : suc k ≡ k + 1 = omega arith in
    subst (λ (j : ℕ). n ≡ count p j) next (omega (arith, none, ap one_if fail, is))

greatest_last : (ns : List ℕ) (n : ℕ) → greatest (ns ++ n ∷ []) ≡ max n (greatest ns)
greatest_last [] n = omega arith
greatest_last (m ∷ ns) n = omega (arith, greatest_last ns n)

map_last : (f : ℕ → ℕ) (ns : List ℕ) (n : ℕ) → map f (ns ++ n ∷ []) ≡ map f ns ++ f n ∷ []
map_last f [] n = refl
map_last f (m ∷ ns) n = ap (λ (l : List ℕ). f m ∷ l) (map_last f ns n)

-- The greatest number of those below k that pass.
abbrev below : (ℕ → ℕ) → (ℕ → Bool) → ℕ → ℕ
below f p k = greatest (map f (filter p (numbers_below k)))

pub greatest_next : (f : ℕ → ℕ) (p : ℕ → Bool) (k n number : ℕ) → p k ≡ true → number ≡ f k
    → n ≡ below f p k → max number n ≡ below f p (k + 1)
greatest_next f p k n number pass is so_far =
    rw (is, so_far) (sym (greatest_last (map f (filter p (numbers_below k))) (f k)))
    ∙ ap greatest (sym (map_last f (filter p (numbers_below k)) k))
    ∙ ap (λ (l : List ℕ). greatest (map f l)) (sym (passing_next p k pass))

pub greatest_same : (f : ℕ → ℕ) (p : ℕ → Bool) (k n : ℕ) → p k ≡ false → n ≡ below f p k
    → n ≡ below f p (k + 1)
greatest_same f p k n fail so_far =
    so_far ∙ ap (λ (l : List ℕ). greatest (map f l)) (sym (passing_same p k fail))
