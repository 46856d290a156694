-- Laws for callers: which items a list has, and that none stands twice.
use Rattle.std.proofs.Common.{◌≡◌, ◌≢◌, ℕ, zero, suc, ◌<◌, ◌≤◌, Some, None, true, false, ◌||◌, eqb}
use Rattle.std.proofs.lemmas.Grind.{common_steps}
use Rattle.std.proofs.Common.{List, [], ◌∷◌, ◌++◌, length, get_or, sym, refl, ap, ◌∙◌, ⊎_elim}
use Rattle.std.proofs.Common.{arith}
use Rattle.std.specs.List.{IsDistinct, AllByRecursion, list_any, Contains}
use Rattle.std.proofs.lemmas.Map.Steps.{length-le_from_distinct_below}
use Rattle.std.proofs.lemmas.Option.{none-some, same_Some}
use Rattle.std.proofs.lemmas.Bool.{or_parts, or_from, or_cases, or_left, or_right, eqb-true}
use Rattle.std.proofs.lemmas.Bool.{eqb-false, eq-eqb, ne_eqb, false≢true}
use Rattle.pm_links.specs.Lists.{has, IsOnce, first_of}

-- ---- one item

pub has_head : (x : ℕ) (xs : List ℕ) → has (x ∷ xs) x ≡ true
has_head x xs = or_left (eqb x x) (has xs x) (eq-eqb x x refl)

pub has_tail : (x : ℕ) (xs : List ℕ) (y : ℕ) → has xs y ≡ true → has (x ∷ xs) y ≡ true
has_tail x xs y h = or_right (eqb x y) (has xs y) h

-- an item of a list is no item that the list lacks
pub differs : (xs : List ℕ) (x y : ℕ) → has xs x ≡ true → has xs y ≡ false → x ≢ y
differs xs x y p q e = false≢true (sym q ∙ ap (has xs) (sym e) ∙ p)

pub has-append : (xs ys : List ℕ) (x : ℕ) → has (xs ++ ys) x ≡ (has xs x || has ys x)
has-append [] ys x = refl
has-append (y ∷ xs) ys x = grind (arith, common_steps, has-append xs ys x)

-- ---- the first item

pub nil_from_first : (xs : List ℕ) → first_of xs ≡ None → xs ≡ []
nil_from_first [] e = refl
nil_from_first (x ∷ xs) e = absurd (none-some x (sym e))

pub first_is : (xs : List ℕ) (x : ℕ) → first_of xs ≡ Some x → (ys : List ℕ) × (xs ≡ x ∷ ys)
first_is [] x e = absurd (none-some x e)
first_is (y ∷ ys) x e = (ys, ap (λ k. k ∷ ys) (same_Some y x e))

-- ---- no item twice

pub once-append : (xs ys : List ℕ) → IsOnce xs → IsOnce ys →
    ((y : ℕ) → has xs y ≡ true → has ys y ≡ false) → IsOnce (xs ++ ys)
once-append [] ys o p apart = p
once-append (x ∷ xs) ys o p apart =
    grind (arith, common_steps, has-append, has_head, has_tail, or_from, once-append xs ys o.1 p)

-- std's word for it
pub IsDistinct_from_once : (xs : List ℕ) → IsOnce xs → IsDistinct eqb xs
unfolding IsDistinct
IsDistinct_from_once [] o = tt
IsDistinct_from_once (x ∷ xs) o = (others x xs o.0, IsDistinct_from_once xs o.1)
  where
    others : (x : ℕ) (xs : List ℕ) → has xs x ≡ false → AllByRecursion (λ y. eqb x y ≡ false) xs
    others x [] h = tt
    others x (y ∷ ys) h =
        let s = or_parts (eqb y x) (has ys x) h in
        (ne_eqb x y (λ e. eqb-false y x s.0 (sym e)), others x ys s.1)

-- numbers below n, no two of them equal, are at most n
pub few_below : (n : ℕ) (xs : List ℕ) → IsOnce xs → ((x : ℕ) → has xs x ≡ true → x < n)
    → length xs ≤ n
few_below n xs o low =
    length-le_from_distinct_below xs n (IsDistinct_from_once xs o) (λ x h. low x (found xs x h))
  where
    found : (ys : List ℕ) (x : ℕ) → list_any (eqb x) ys ≡ true → has ys x ≡ true
    found [] x h = h
    found (y ∷ ys) x h =
        ⊎_elim (λ e. or_left (eqb y x) (has ys x) (eq-eqb y x (sym (eqb-true x y e))))
        (λ k. has_tail y ys x (found ys x k)) (or_cases (eqb x y) (list_any (eqb x) ys) h)

-- ---- std's word for membership

pub Contains-has : (xs : List ℕ) (x : ℕ) → has xs x ≡ true → Contains xs x
Contains-has [] x h = absurd (false≢true h)
Contains-has (y ∷ ys) x h =
    ⊎_elim (λ e. (0, omega arith, eqb-true y x e))
    (λ k. let r =
    Contains-has ys x k in (suc r.0, omega arith, r.2)) (or_cases (eqb y x) (has ys x) h)

pub has_from_Contains : (xs : List ℕ) (x : ℕ) → Contains xs x → has xs x ≡ true
has_from_Contains xs x c = at xs c.0 c.1 c.2
  where
    at : (ys : List ℕ) (k : ℕ) → k < length ys → get_or ys k x ≡ x → has ys x ≡ true
    at [] k l e = absurd (omega arith)
    at (y ∷ ys) zero l e = or_left (eqb y x) (has ys x) (eq-eqb y x e)
    at (y ∷ ys) (suc k) l e = has_tail y ys x (at ys k (omega arith) e)
