-- Laws for callers: a walk along one list by `first` and `next`.
use Rattle.std.proofs.Common.{◌≡◌, ℕ, ◌<◌, ◌≤◌, true, false, eqb, List, [], ◌∷◌, get_or, sym, refl}
use Rattle.std.proofs.Common.{ap, ◌∙◌, ⊎_elim, arith}
use Rattle.std.specs.List.{All}
use Rattle.std.specs.Option.{IfSome}
use Rattle.std.proofs.lemmas.List.Elements.{Contains-get_or}
use Rattle.std.proofs.lemmas.Bool.{or_parts, or_cases, eqb-false, eq-eqb, ne_eqb, cases_Bool}
use Rattle.std.proofs.lemmas.Bool.{false≢true}
use Rattle.pm_links.specs.Lists.{Lists, list_of, has, IsOnce, first_of, after, rest_of_walk}
use Rattle.pm_links.specs.Lists.{IsSound}
use Rattle.pm_links.proofs.Members.{has_head, has_tail, has_from_Contains}

-- ---- what is left to see

-- at the start it is the whole list
pub rest_first : (xs : List ℕ) → rest_of_walk (first_of xs) xs ≡ xs
rest_first [] = refl
rest_first (x ∷ xs) = rw (eq-eqb x x refl) refl

-- what stands after an item of a list is in the list
pub held_after : (x : ℕ) (xs : List ℕ) (w : ℕ) → has (after x xs) w ≡ true → has xs w ≡ true
held_after x [] w t = t
held_after x (z ∷ zs) w t =
    ⊎_elim (λ (e : eqb z x ≡ true). has_tail z zs w (rw e at t))
    (λ (e : eqb z x ≡ false). has_tail z zs w (held_after x zs w (rw e at t)))
    (cases_Bool (eqb z x))

-- one step on
pub rest_next : (xs : List ℕ) (x : ℕ) → IsOnce xs → has xs x ≡ true →
    rest_of_walk (first_of (after x xs)) xs ≡ after x xs
rest_next [] x o h = refl
rest_next (y ∷ ys) x o h =
    ⊎_elim (λ (e : eqb y x ≡ true). rw e (at_head ys o.0))
    (λ (e : eqb y x ≡ false).
    let k : has ys x ≡ true = ⊎_elim (λ t. absurd (false≢true (sym e ∙ t))) (λ t. t)
    (or_cases (eqb y x) (has ys x) h) in
    rw e (later (after x ys) (held_after x ys) ∙ rest_next ys x o.1 k))
    (cases_Bool (eqb y x))
  where
    at_head : (zs : List ℕ) → has zs y ≡ false → rest_of_walk (first_of zs) (y ∷ zs) ≡ zs
    at_head [] n = refl
    at_head (z ∷ zs) n =
        let s = or_parts (eqb z y) (has zs y) n in
        rw (ne_eqb y z (λ t. eqb-false z y s.0 (sym t)), eq-eqb z z refl) refl

    later : (ws : List ℕ) → ((w : ℕ) → has ws w ≡ true → has ys w ≡ true) →
        rest_of_walk (first_of ws) (y ∷ ys) ≡ rest_of_walk (first_of ws) ys
    later [] f = refl
    later (w ∷ ws) f =
        let inside : has ys w ≡ true = f w (has_head w ws) in
        rw (ne_eqb y w (λ t. false≢true (sym o.0 ∙ ap (has ys) t ∙ inside))) refl

-- ---- the item that the walk has come to is in the list

pub held_first : (xs : List ℕ) → IfSome (first_of xs) (λ x. has xs x ≡ true)
held_first [] = tt
held_first (x ∷ xs) = has_head x xs

pub held_next : (x : ℕ) (xs : List ℕ) → IfSome (first_of (after x xs)) (λ y. has xs y ≡ true)
held_next x xs = step (after x xs) (held_after x xs)
  where
    step : (ws : List ℕ) → ((w : ℕ) → has ws w ≡ true → has xs w ≡ true) →
        IfSome (first_of ws) (λ y. has xs y ≡ true)
    step [] f = tt
    step (w ∷ ws) f = f w (has_head w ws)

-- ---- a bound on every item, for tables that are read at them

pub All-in_range : (v : Lists) (h n : ℕ) → IsSound v → v.items ≤ n → All (λ x. x < n) (list_of v h)
All-in_range v h n s le = λ k d l.
    let i : has (list_of v h) (get_or (list_of v h) k d) ≡ true =
    has_from_Contains (list_of v h) (get_or (list_of v h) k d)
    (Contains-get_or (list_of v h) k d l) in
    let lt : get_or (list_of v h) k d < v.items = s.in_range h (get_or (list_of v h) k d) i in
    omega arith
