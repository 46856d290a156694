-- Laws for callers: a list with an item taken out.
use Rattle.std.proofs.Common.{◌≡◌, ◌≢◌, ℕ, zero, suc, Bool, true, false, ◌||◌, eqb, List, [], ◌∷◌}
use Rattle.std.proofs.Common.{arith}
use Rattle.std.proofs.lemmas.Grind.{common_steps}
use Rattle.std.proofs.Common.{get_or, map, sym, refl, ap, ◌∙◌, ⊎_elim}
use Rattle.std.proofs.lemmas.Bool.{or_parts, eqb-true, eqb-false, eq-eqb, ne_eqb, cases_Bool}
use Rattle.std.proofs.lemmas.Bool.{false≢true}
use Rattle.pm_links.specs.Lists.{has, IsOnce, list_without}

-- an item that isn't there
pub without_none : (x : ℕ) (xs : List ℕ) → has xs x ≡ false → list_without x xs ≡ xs
without_none x [] h = refl
without_none x (y ∷ ys) h =
    let s = or_parts (eqb y x) (has ys x) h in
    rw s.0 (ap (λ k. y ∷ k) (without_none x ys s.1))

-- the first item
pub without_first : (x : ℕ) (xs : List ℕ) → IsOnce (x ∷ xs) → list_without x (x ∷ xs) ≡ xs
without_first x xs o = rw (eq-eqb x x refl) (without_none x xs o.0)

-- another item is there as before
pub has-without : (x : ℕ) (xs : List ℕ) (y : ℕ) → y ≢ x → has (list_without x xs) y ≡ has xs y
has-without x [] y ne = refl
has-without x (z ∷ zs) y ne =
    ⊎_elim (λ (e : eqb z x ≡ true). rw e (has-without x zs y ne
    ∙ sym (or_step (eqb z y) (has zs y) (ne_eqb z y (λ k. ne (sym k ∙ eqb-true z x e))))))
    (λ (e : eqb z x ≡ false). rw e (ap (λ b. eqb z y || b) (has-without x zs y ne)))
    (cases_Bool (eqb z x))
  where
    or_step : (a b : Bool) → a ≡ false → (a || b) ≡ b
    or_step a b e = rw e refl

pub has-without_same : (x : ℕ) (xs : List ℕ) → has (list_without x xs) x ≡ false
has-without_same x [] = refl
has-without_same x (z ∷ zs) =
    ⊎_elim (λ (e : eqb z x ≡ true). rw e (has-without_same x zs))
    (λ (e : eqb z x ≡ false). rw (e, e) (has-without_same x zs)) (cases_Bool (eqb z x))

-- what is still there is another item, and was there
pub was_there : (x : ℕ) (xs : List ℕ) (y : ℕ) → has (list_without x xs) y ≡ true
    → (y ≢ x) × (has xs y ≡ true)
was_there x xs y h = grind (arith, common_steps, false≢true, has-without, has-without_same)

pub once-without : (x : ℕ) (xs : List ℕ) → IsOnce xs → IsOnce (list_without x xs)
once-without x [] o = tt
once-without x (z ∷ zs) o =
    ⊎_elim (λ (e : eqb z x ≡ true). rw e (once-without x zs o.1))
    (λ (e : eqb z x ≡ false). rw e (
      has-without x zs z (eqb-false z x e)
          ∙ o.0,
      once-without x zs o.1,
    )) (cases_Bool (eqb z x))

-- one of many lists
pub get_without : (x : ℕ) (ls : List (List ℕ)) (g : ℕ) →
    get_or (map (list_without x) ls) g [] ≡ list_without x (get_or ls g [])
get_without x [] g = refl
get_without x (l ∷ ls) zero = refl
get_without x (l ∷ ls) (suc g) = get_without x ls g
