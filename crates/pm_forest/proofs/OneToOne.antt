-- A function that is one to one below n and stays below n leaves no number below n out.
use Rattle.std.proofs.Common.{◌≡◌, ℕ, zero, suc, ◌<◌, eqb, true, false, List, [], ◌∷◌, length, inl}
use Rattle.std.proofs.lemmas.Grind.{common_steps}
use Rattle.std.proofs.Common.{inr, refl, sym, ap, arith}
use Rattle.std.specs.List.{IsDistinct, AllByRecursion, list_any}
use Rattle.std.proofs.lemmas.Bool.{eqb-true, eq-eqb, false≢true, or_cases, or_parts}
use Rattle.std.proofs.lemmas.Bool.{both_ways}
use Rattle.std.proofs.lemmas.Map.Steps.{length-le_from_distinct_below}
use Rattle.pm_base.specs.Sides.{find_below}
use Rattle.pm_base.proofs.Search.{find_below-some, option_cases}
use Rattle.pm_forest.proofs.SameSplit.{find_below-none}

-- f (n - 1) down to f 0
abbrev pub images : (ℕ → ℕ) → ℕ → List ℕ
images f zero = []
images f (suc n) = f n ∷ images f n

pub length-images : (f : ℕ → ℕ) (n : ℕ) → length (images f n) ≡ n
length-images f zero = refl
length-images f (suc n) = ap suc (length-images f n)

pub images-parts : (f : ℕ → ℕ) (n q : ℕ) → list_any (eqb q) (images f n) ≡ true
    → (x : ℕ) × (x < n) × (q ≡ f x)
images-parts f zero q e = absurd (false≢true e)
images-parts f (suc n) q e = grind (arith, common_steps, eqb-true, or_cases, images-parts f n q)

none_equal : (q : ℕ) (xs : List ℕ) → list_any (eqb q) xs ≡ false
    → AllByRecursion (λ y. eqb q y ≡ false) xs
none_equal q [] e = tt
none_equal q (x ∷ xs) e = let p = or_parts (eqb q x) (list_any (eqb q) xs) e in
    (p.0, none_equal q xs p.1)

pub distinct_more : (q : ℕ) (xs : List ℕ) → IsDistinct eqb xs → (list_any (eqb q) xs ≡ true → ⊥)
    → IsDistinct eqb (q ∷ xs)
unfolding IsDistinct
distinct_more q xs distinct fresh = grind (arith, common_steps, none_equal)

pub distinct_nil : IsDistinct eqb []
unfolding IsDistinct
distinct_nil = tt

pub images-distinct : (f : ℕ → ℕ) (n : ℕ) → ((x y : ℕ) → x < n → y < n → f x ≡ f y → x ≡ y)
    → IsDistinct eqb (images f n)
images-distinct f zero once = distinct_nil
images-distinct f (suc n) once =
    grind (arith, common_steps, distinct_more, images-parts, images-distinct f n)

pub each_is_met : (f : ℕ → ℕ) (n : ℕ) → ((x y : ℕ) → x < n → y < n → f x ≡ f y → x ≡ y)
    → ((x : ℕ) → x < n → f x < n) →
    (i : ℕ) → i < n → (x : ℕ) × (x < n) × (f x ≡ i)
each_is_met f n once there i l =
    elim (option_cases (find_below (λ x. eqb (f x) i) n)) [
      | inr (x, found) ↦ (let p = find_below-some (λ y. eqb (f y) i) n x found in
          (x, p.1, eqb-true (f x) i p.0))
      | inl none ↦
          let missed : list_any (eqb i) (images f n) ≡ true → ⊥ = λ e.
          (let (x, m, is) = images-parts f n i e in
          both_ways _ (find_below-none (λ y. eqb (f y) i) n x none m) (eq-eqb (f x) i (sym is))) in
          let all = length-le_from_distinct_below (i ∷ images f n) n
          (distinct_more i (images f n) (images-distinct f n once) missed) (λ q e.
          elim (or_cases (eqb q i) (list_any (eqb q) (images f n)) e) [
            | inl a ↦ (rw (eqb-true q i a) l)
            | inr a ↦ (let (x, m, is) = images-parts f n q a in rw is (there x m))
          ]) in
          let count = length-images f n in
          absurd (omega arith)
    ]
